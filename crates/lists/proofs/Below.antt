-- A test of every number below n, as a loop and a caller want it.
use mathlib.Core.Path.{◌≡◌, refl, sym, ap, ◌∙◌}
use mathlib.Core.Bool.{Bool, true, false, and-false}
use Prim.Native.Nat.{ℕ, zero, suc, ◌+◌, ◌≤◌, ◌<◌}
use native.Mathlib.Decide.{dec_lt}
use native.Mathlib.Numerals.{add-one}
use native.Mathlib.Nat.{not-suc-le-zero}
use native.Mathlib.Omega.{arith}
use Rattle.lists.specs.Lists.{all_below}
use Rattle.lists.proofs.Every.{both}

module _ (p : ℕ → Bool) where
  pub all_none : all_below 0 p ≡ true
  unfolding all_below
  all_none = refl

  all_suc : (i : ℕ) → all_below i p ≡ true → p i ≡ true → all_below (suc i) p ≡ true
  unfolding all_below
  all_suc i e h = rw (e, h)

  pub all_next : (i : ℕ) → all_below i p ≡ true → p i ≡ true → all_below (i + 1) p ≡ true
  all_next i e h = rw add-one (all_suc i e h)

  pub all_fail : (n k : ℕ) → k < n → p k ≡ false → all_below n p ≡ false
  unfolding all_below
  all_fail zero k l e = absurd (not-suc-le-zero l)
  all_fail (suc n) k l e =
      elim (dec_lt k n) [
        | yes g ↦ rw (all_fail n k g e)
        | no g ↦ let q : k ≡ n = omega arith in rw (sym (ap p q) ∙ e, and-false (all_below n p))
      ]

  pub all_at : (n k : ℕ) → all_below n p ≡ true → k < n → p k ≡ true
  unfolding all_below
  all_at zero k e l = absurd (not-suc-le-zero l)
  all_at (suc n) k e l =
      elim (dec_lt k n) [
        | yes g ↦ all_at n k (both (all_below n p) (p n) e).0 g
        | no g ↦ let q : k ≡ n = omega arith in ap p q ∙ (both (all_below n p) (p n) e).1
      ]

  pub all_yes : (n : ℕ) → ((k : ℕ) → k < n → p k ≡ true) → all_below n p ≡ true
  unfolding all_below
  all_yes zero h = refl
  all_yes (suc n) h = rw (all_yes n (λ k l. h k (omega arith)), h n (omega arith))

  pub all_done : (n i : ℕ) → i ≤ n → n ≤ i → all_below i p ≡ true → true ≡ all_below n p
  all_done n i a b e = let q : i ≡ n = omega arith in sym (rw q at e)

  pub all_failed : (n k : ℕ) → k < n → p k ≡ false → false ≡ all_below n p
  all_failed n k l e = sym (all_fail n k l e)

pub all_same : (n : ℕ) (p q : ℕ → Bool) → ((k : ℕ) → k < n → p k ≡ q k) → all_below n p ≡ all_below n q
unfolding all_below
all_same zero p q h = refl
all_same (suc n) p q h = rw (all_same n p q (λ k l. h k (omega arith)), h n (omega arith))

-- the answer of a call that is a test
pub by_call : {r b v : Bool} → r ≡ b → r ≡ v → b ≡ v
by_call p q = sym p ∙ q
