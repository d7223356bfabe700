-- What a straight is charged: never less than its length, and its length where the figure is 0; by its square, without a root where that is enough.
use mathlib.Core.Path.{◌≡◌, refl, sym, ◌∙◌}
use mathlib.Core.Bool.{true, false}
use Prim.Native.Nat.{ℕ, zero, suc, ◌*◌, ◌<◌, ◌≤◌, max}
use native.Mathlib.Omega.{arith}
use native.Mathlib.Decide.{dec_lt}
use lib.Dec.{ltb}
use borrow.Author.Tests.{lt-ltb, le-ltb}
use Rattle.lengths.specs.Length.{root_up}
use Rattle.lengths.specs.Charge.{charge}
use Rattle.lengths.proofs.Roots.{root_is}
use Rattle.lengths.proofs.Squares.{square_lt}

module _ (f : ℕ) where
  pub charge_least : (l : ℕ) → l ≤ charge f l
  unfolding charge
  charge_least zero = omega arith
  charge_least (suc l) = omega arith

  pub charge_bound : (l b : ℕ) → f ≤ b → l ≤ b → charge f l ≤ b
  unfolding charge
  charge_bound zero b g h = omega arith
  charge_bound (suc l) b g h = omega arith

  charge_more : (l : ℕ) → 0 < l → charge f l ≡ max f l
  unfolding charge
  charge_more zero h = absurd (omega arith)
  charge_more (suc l) h = refl

-- under the figure 0 a straight is charged its length
pub charge_plain : (l : ℕ) → charge 0 l ≡ l
unfolding charge
charge_plain zero = refl
charge_plain (suc l) = omega arith

-- a length is at most `most` exactly where the square is at most its square
root_within : (n most : ℕ) → n ≤ most * most → root_up n ≤ most
root_within n most h = (root_is n).least most h

root_beyond : (n most : ℕ) → most * most < n → most < root_up n
root_beyond n most h = square_lt most (root_up n) (omega (arith, (root_is n).enough))

root_above : (n : ℕ) → (n ≡ 0 → ⊥) → 0 < root_up n
root_above n h = root_beyond n 0 (omega arith)

module _ (f n : ℕ) where
  -- what the code charges
  pub charge_free : (l : ℕ) → l ≡ root_up n → l ≡ 0 → 0 ≡ charge f (root_up n)
  unfolding charge
  charge_free l e h = rw (sym e ∙ h)

  pub charge_larger : (l m : ℕ) → l ≡ root_up n → (l ≡ 0 → ⊥) → m ≡ max l f → m ≡ charge f (root_up n)
  charge_larger l m e h g = rw (← e) (omega (arith, charge_more f l (omega arith)))

  -- whether that is more than `most`
  pub dearer_free : (most : ℕ) → n ≡ 0 → false ≡ ltb most (charge f (root_up n))
  unfolding charge root_up
  dearer_free most e = rw e (sym (le-ltb most 0 (omega arith)))

  pub dearer_figure : (most : ℕ) → (n ≡ 0 → ⊥) → most < f → true ≡ ltb most (charge f (root_up n))
  dearer_figure most h g = sym (lt-ltb most (charge f (root_up n)) (omega (arith, charge_more f (root_up n) (root_above n h))))

  pub dearer_length : (most : ℕ) → f ≤ most → ltb (most * most) n ≡ ltb most (charge f (root_up n))
  dearer_length most g = go (dec_lt (most * most) n)
    where
      go : Dec (most * most < n) → ltb (most * most) n ≡ ltb most (charge f (root_up n))
      go (yes h) = lt-ltb (most * most) n h ∙ sym (lt-ltb most _ (omega (arith, root_beyond n most h, charge_least f (root_up n))))
      go (no h) = le-ltb (most * most) n (omega arith) ∙ sym (le-ltb most _ (charge_bound f (root_up n) most g (root_within n most (omega arith))))
