-- How holdings, free numbers and unfilled shares change where one place of the runs and one holder is written.
use mathlib.Core.Path.{◌≡◌, refl, sym, ap}
use mathlib.Core.Logic.{◌≢◌}
use mathlib.Core.List.{List, [], ◌∷◌}
use mathlib.Core.Bool.{true, false, cond}
use Prim.Native.Nat.{ℕ, ◌+◌, ◌-◌, ◌<◌}
use native.Mathlib.Omega.{arith}
use lib.Dec.{eqb}
use lib.ListN.{length, set}
use lib.Seq.{get_or-set_same, get_or-set_other}
use borrow.Author.Tests.{eq-eqb, ne_eqb}
use Rattle.geometry.specs.Words.{Point, word}
use Rattle.book.specs.Book.{free}
use Rattle.shares.specs.Shares.{one, held, free_numbers, unfilled_of, unfilled, unfilled_others}
use Rattle.shares.proofs.Sums.{sum_change}

module _ (runs : List (List Point)) (m : ℕ) (ps : List Point) where
  pub free_other : (k : ℕ) → k ≢ m → free (set runs m ps) k ≡ free runs k
  unfolding free
  free_other k d = rw (get_or-set_other runs m k ps [] d, free)

  pub free_change : m < 24 → free_numbers runs + one (free (set runs m ps) m) ≡ free_numbers (set runs m ps) + one (free runs m)
  unfolding free_numbers
  free_change l = sum_change (λ k. one (free runs k)) (λ k. one (free (set runs m ps) k)) 24 m l (λ k b d. ap one (sym (free_other k d)))

pub free_filled : (runs : List (List Point)) (m : ℕ) (p : Point) (ps : List Point) → m < length runs → free (set runs m (p ∷ ps)) m ≡ false
unfolding free
free_filled runs m p ps l = rw (get_or-set_same runs m (p ∷ ps) [] l, free)

pub free_emptied : (runs : List (List Point)) (m : ℕ) → m < length runs → free (set runs m []) m ≡ true
unfolding free
free_emptied runs m l = rw (get_or-set_same runs m [] [] l, free)

module _ (hs : List ℕ) (m v : ℕ) (sized : length hs ≡ 24) (l : m < 24) where
  pub held_change : (d : ℕ) → held hs d + one (eqb v d) ≡ held (set hs m v) d + one (eqb (word hs m) d)
  unfolding held
  held_change d =
      let s = sum_change (λ k. one (eqb (word hs k) d)) (λ k. one (eqb (word (set hs m v) k) d)) 24 m l
      (λ k b n. ap (λ (w : ℕ). one (eqb w d)) (sym (get_or-set_other hs m k v 0 n))) in
      rw (get_or-set_same hs m v 0 (omega arith)) at s

module _ (hs shares : List ℕ) (c : ℕ) (l : c < 4) where
  pub unfilled_change : (hs' : List ℕ) → ((d : ℕ) → d < 4 → d ≢ c → held hs d ≡ held hs' d)
      → unfilled hs shares + unfilled_of hs' shares c ≡ unfilled hs' shares + unfilled_of hs shares c
  unfolding unfilled
  unfilled_change hs' h =
      sum_change (λ d. unfilled_of hs shares d) (λ d. unfilled_of hs' shares d) 4 c l (λ d b n. ap (λ (x : ℕ). word shares d - x) (h d b n))

  pub unfilled_split : unfilled hs shares ≡ unfilled_others hs shares c + unfilled_of hs shares c
  unfolding unfilled unfilled_others
  unfilled_split =
      let s = sum_change (λ d. unfilled_of hs shares d) (λ d. cond (eqb d c) 0 (unfilled_of hs shares d)) 4 c l
      (λ d b n. rw (ne_eqb d c n)) in
      let z : cond (eqb c c) 0 (unfilled_of hs shares c) ≡ 0 = rw (eq-eqb c c refl) in
      omega (arith, s, z)
