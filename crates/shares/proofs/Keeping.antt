-- Question 18 stays true: an accepted call leaves right holders, holdings below their ceilings, and free numbers enough.
use mathlib.Core.Path.{◌≡◌, refl, sym, ap}
use mathlib.Core.Logic.{◌≢◌}
use mathlib.Core.List.{List, [], ◌∷◌}
use mathlib.Core.Bool.{true, false, ◌&&◌}
use Prim.Native.Nat.{ℕ, ◌+◌, ◌-◌, ◌<◌, ◌≤◌}
use native.Mathlib.Decide.{ℕ_discrete}
use native.Mathlib.Omega.{arith}
use lib.Dec.{leb, eqb}
use lib.ListN.{length, set}
use lib.Seq.{get_or-set_same, get_or-set_other, set-get_or}
use borrow.Author.Tests.{eq-eqb, ne_eqb, lt-ltb, le-leb, leb-true, eqb-true}
use Rattle.geometry.specs.Words.{Point, word}
use Rattle.lists.specs.Lists.{all_below}
use Rattle.lists.proofs.Below.{all_at, all_yes}
use Rattle.lists.proofs.Every.{both}
use Rattle.book.specs.Book.{free}
use Rattle.shares.specs.Shares.{Terms, sum_below, one, held, free_numbers, unfilled, unfilled_others, holder_right, terms_right, holders_right, holdings_right, shares_right}
use Rattle.shares.proofs.Counts.{free_other, free_change, free_filled, free_emptied, held_change, unfilled_change, unfilled_split}

-- the terms in parts
pub terms_kept : (t : Terms) → terms_right t ≡ true → ((c : ℕ) → c < 4 → word t.shares c ≤ word t.ceilings c) × (sum_below 4 (λ c. word t.shares c) ≤ 24)
unfolding terms_right
terms_kept t h =
    let a = both (all_below 4 (λ c. leb (word t.shares c) (word t.ceilings c))) (leb (sum_below 4 (λ c. word t.shares c)) 24) h in
    (λ c l. leb-true _ _ (all_at (λ k. leb (word t.shares k) (word t.ceilings k)) 4 c a.0 l), leb-true _ 24 a.1)

-- question 18 in parts
pub record Kept (runs : List (List Point)) (t : Terms) (hs : List ℕ) : Type 0 where
  pub terms : terms_right t ≡ true
  pub holders : (m : ℕ) → m < 24 → holder_right (free runs m) (word hs m) ≡ true
  pub holdings : (c : ℕ) → c < 4 → held hs c ≤ word t.ceilings c
  pub enough : unfilled hs t.shares ≤ free_numbers runs

module _ (runs : List (List Point)) (t : Terms) (hs : List ℕ) where
  pub kept_of : shares_right runs t hs ≡ true → Kept runs t hs
  unfolding shares_right holders_right holdings_right
  kept_of h =
      let a = both (terms_right t && holders_right runs hs && holdings_right t hs) (leb (unfilled hs t.shares) (free_numbers runs)) h in
      let b = both (terms_right t && holders_right runs hs) (holdings_right t hs) a.0 in
      let d = both (terms_right t) (holders_right runs hs) b.0 in
      record {
        terms = d.0;
        holders = λ m l. all_at (λ k. holder_right (free runs k) (word hs k)) 24 m d.1 l;
        holdings = λ c l. leb-true _ _ (all_at (λ k. leb (held hs k) (word t.ceilings k)) 4 c b.1 l);
        enough = leb-true _ _ a.1;
      }

  pub kept_yes : Kept runs t hs → shares_right runs t hs ≡ true
  unfolding shares_right holders_right holdings_right
  kept_yes k =
      rw (
        k.terms,
        all_yes (λ m. holder_right (free runs m) (word hs m)) 24 k.holders,
        all_yes (λ c. leb (held hs c) (word t.ceilings c)) 4 (λ c l. le-leb _ _ (k.holdings c l)),
        le-leb _ _ k.enough,
      )

  module _ (c m : ℕ) (k : Kept runs t hs) (count : length runs ≡ 24) (sized : length hs ≡ 24) (lc : c < 4) (lm : m < 24) where
    -- one place and its holder written
    written_holders : (ps : List Point) (v : ℕ) → holder_right (free (set runs m ps) m) v ≡ true
        → (i : ℕ) → i < 24 → holder_right (free (set runs m ps) i) (word (set hs m v) i) ≡ true
    written_holders ps v h i l = go (ℕ_discrete i m)
      where
        go : Dec (i ≡ m) → holder_right (free (set runs m ps) i) (word (set hs m v) i) ≡ true
        go (yes e) = rw (e, get_or-set_same hs m v 0 (omega arith)) h
        go (no e) = rw (get_or-set_other hs m i v 0 e, free_other runs m ps i e) (k.holders i l)

    module _ (p q : Point) (f : free runs m ≡ true) (low : held hs c < word t.ceilings c) (spare : unfilled_others hs t.shares c < free_numbers runs) where
      unheld : word hs m ≡ 255
      unheld = eqb-true _ 255 (rw f at (k.holders m lm))

      more : (d : ℕ) → d < 4 → held (set hs m c) d ≡ held hs d + one (eqb c d)
      more d l =
          let s = held_change hs m c sized lm d in
          let n : eqb (word hs m) d ≡ false = ne_eqb (word hs m) d (λ e. omega (arith, unheld)) in
          omega (arith, s, ap one n)

      others : (d : ℕ) → d < 4 → d ≢ c → held hs d ≡ held (set hs m c) d
      others d l n = let s = more d l in let z : eqb c d ≡ false = ne_eqb c d (λ e. n (sym e)) in omega (arith, ap one z)

      mine : held (set hs m c) c ≡ held hs c + 1
      mine = let s = more c lc in omega (arith, ap one (eq-eqb c c refl))

      pub add_kept : Kept (set runs m (p ∷ q ∷ [])) t (set hs m c)
      add_kept =
          record {
            terms = k.terms;
            holders = written_holders (p ∷ q ∷ []) c (rw (free_filled runs m p (q ∷ []) (omega arith)) (lt-ltb c 4 lc));
            holdings = λ d l. elim (ℕ_discrete d c) [ yes e ↦ rw e (omega (arith, mine)) | no e ↦ omega (arith, k.holdings d l, others d l e) ];
            enough =
                let a = unfilled_change hs t.shares c lc (set hs m c) others in
                let b = unfilled_split hs t.shares c lc in
                let e = free_change runs m (p ∷ q ∷ []) lm in
                omega (arith, a, b, e, ap one f, ap one (free_filled runs m p (q ∷ []) (omega arith)), mine, k.enough);
          }

    module _ (f : free runs m ≡ false) (own : word hs m ≡ c) where
      fewer : (d : ℕ) → d < 4 → held hs d ≡ held (set hs m 255) d + one (eqb c d)
      fewer d l =
          let s = held_change hs m 255 sized lm d in
          let n : eqb 255 d ≡ false = ne_eqb 255 d (λ e. omega arith) in
          omega (arith, s, ap one n, ap (λ (w : ℕ). one (eqb w d)) own)

      left : (d : ℕ) → d < 4 → d ≢ c → held hs d ≡ held (set hs m 255) d
      left d l n = let s = fewer d l in let z : eqb c d ≡ false = ne_eqb c d (λ e. n (sym e)) in omega (arith, ap one z)

      pub remove_kept : Kept (set runs m []) t (set hs m 255)
      remove_kept =
          record {
            terms = k.terms;
            holders = written_holders [] 255 (rw (free_emptied runs m (omega arith)) refl);
            holdings = λ d l. omega (arith, k.holdings d l, fewer d l);
            enough =
                let a = unfilled_change hs t.shares c lc (set hs m 255) left in
                let e = free_change runs m [] lm in
                omega (arith, a, e, ap one f, ap one (free_emptied runs m (omega arith)), fewer c lc, ap one (eq-eqb c c refl), k.enough);
          }

      pub move_kept : (p q : Point) → Kept (set runs m (p ∷ q ∷ [])) t hs
      move_kept p q =
          record {
            terms = k.terms;
            holders = λ i l. rw (set-get_or hs m 0) at
                (written_holders (p ∷ q ∷ []) (word hs m) (rw (free_filled runs m p (q ∷ []) (omega arith), own) (lt-ltb c 4 lc)) i l);
            holdings = k.holdings;
            enough =
                let e = free_change runs m (p ∷ q ∷ []) lm in
                omega (arith, e, ap one f, ap one (free_filled runs m p (q ∷ []) (omega arith)), k.enough);
          }
