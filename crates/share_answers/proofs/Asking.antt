-- The number that each way through the questions ends in.
use mathlib.Core.Path.{◌≡◌, sym, ◌∙◌}
use mathlib.Core.List.{List}
use mathlib.Core.Bool.{Bool, true, false, not}
use Prim.Native.Nat.{ℕ, ◌*◌, ◌<◌}
use native.Mathlib.Omega.{arith}
use lib.Dec.{ltb, eqb}
use lib.ListN.{length}
use borrow.Author.Tests.{lt-ltb, eq-eqb, ne_eqb, not-true, not-false}
use Rattle.refusals.specs.declared.Refusal.{Refusal}
use Rattle.refusals.specs.Numbers.{number_of}
use Rattle.geometry.specs.Words.{word}
use Rattle.book.specs.Questions.{first_no}
use Rattle.book.specs.Book.{free}
use Rattle.book.proofs.Questions.{first_yes, first_more}
use Rattle.shares.specs.Shares.{Terms, held, free_numbers, unfilled_others, shares_right}
use Rattle.shares.proofs.Going.{names}
use Rattle.answers.proofs.Answers.{some}
use Rattle.share_answers.specs.inner.Asked.{run_places, named_asked, add_asked, own_asked}
use Rattle.share_answers.proofs.Loops.{free_at}

module _ (r hs : List ℕ) (t : Terms) (c m : ℕ) where
  pub add_unnamed : (e : Refusal) → number_of e ≡ first_no (named_asked (run_places r) t hs c m) → number_of e ≡ first_no (add_asked (run_places r) t hs c m)
  unfolding named_asked add_asked
  add_unnamed e f = f ∙ first_more (named_asked (run_places r) t hs c m) _ (λ z. some e (f ∙ z))

  pub own_unnamed : (e : Refusal) → number_of e ≡ first_no (named_asked (run_places r) t hs c m) → number_of e ≡ first_no (own_asked (run_places r) t hs c m)
  unfolding named_asked own_asked
  own_unnamed e f = f ∙ first_more (named_asked (run_places r) t hs c m) _ (λ z. some e (f ∙ z))

  module _ (f : 0 ≡ first_no (named_asked (run_places r) t hs c m)) where
    right : shares_right (run_places r) t hs ≡ true
    unfolding named_asked
    right = (first_yes 17 _ _ (sym f)).0

    both_below : (c < 4) × (m < 24)
    unfolding named_asked
    both_below = names c m (first_yes 2 _ _ (first_yes 17 _ _ (sym f)).1).0

    pub contractor_below : c < 4
    contractor_below = both_below.0

    pub number_below : m < 24
    number_below = both_below.1

    c_right : ltb c 4 ≡ true
    c_right = lt-ltb c 4 contractor_below

    m_right : ltb m 24 ≡ true
    m_right = lt-ltb m 24 number_below

    free_now : free (run_places r) m ≡ eqb (word r (5 * m)) 0
    free_now = free_at r m number_below

    -- 4, 19 and 20
    pub add_4 : (word r (5 * m) ≡ 0 → ⊥) → 4 ≡ first_no (add_asked (run_places r) t hs c m)
    unfolding add_asked first_no
    add_4 n = rw (right, c_right, m_right, free_now, ne_eqb _ 0 n)

    module _ (e : word r (5 * m) ≡ 0) (b : Bool) (eb : b ≡ ltb (held hs c) (word t.ceilings c)) where
      pub add_19 : not b ≡ true → 19 ≡ first_no (add_asked (run_places r) t hs c m)
      unfolding add_asked first_no
      add_19 n = rw (right, c_right, m_right, free_now, eq-eqb _ 0 e, sym eb ∙ not-true b n)

      module _ (y : not b ≡ false) (d : Bool) (ed : d ≡ ltb (unfilled_others hs t.shares c) (free_numbers (run_places r))) where
        pub add_20 : not d ≡ true → 20 ≡ first_no (add_asked (run_places r) t hs c m)
        unfolding add_asked first_no
        add_20 n = rw (right, c_right, m_right, free_now, eq-eqb _ 0 e, sym eb ∙ not-false b y, sym ed ∙ not-true d n)

        pub add_0 : not d ≡ false → 0 ≡ first_no (add_asked (run_places r) t hs c m)
        unfolding add_asked first_no
        add_0 n = rw (right, c_right, m_right, free_now, eq-eqb _ 0 e, sym eb ∙ not-false b y, sym ed ∙ not-false d n)

    -- 5
    pub own_absent : word r (5 * m) ≡ 0 → 5 ≡ first_no (own_asked (run_places r) t hs c m)
    unfolding own_asked first_no
    own_absent e = rw (right, c_right, m_right, free_now, eq-eqb _ 0 e)

    module _ (n : word r (5 * m) ≡ 0 → ⊥) (w : ℕ) (ew : w ≡ word hs m) where
      pub own_other : (w ≡ c → ⊥) → 5 ≡ first_no (own_asked (run_places r) t hs c m)
      unfolding own_asked first_no
      own_other d = rw (right, c_right, m_right, free_now, ne_eqb _ 0 n, ne_eqb (word hs m) c (λ q. d (ew ∙ q)))

      pub own_0 : w ≡ c → 0 ≡ first_no (own_asked (run_places r) t hs c m)
      unfolding own_asked first_no
      own_0 q = rw (right, c_right, m_right, free_now, ne_eqb _ 0 n, eq-eqb (word hs m) c (sym ew ∙ q))

    -- what the code reads next
    pub in_runs : length r ≡ 121 → 5 * m < length r
    in_runs e = omega (arith, number_below)

    pub in_holders : length hs ≡ 24 → m < length hs
    in_holders e = omega (arith, number_below)
