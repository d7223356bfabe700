-- How large an integer is, and that it fits 64 bits.
use mathlib.Core.Path.{◌≡◌, refl, sym, ◌∙◌, subst}
use Prim.Native.Nat.{ℕ, zero, suc, ◌+◌, ◌*◌, ◌^◌, ◌<◌, ◌≤◌}
use native.Mathlib.Omega.{arith}
use native.Mathlib.Nat.{mul-le-mul}
use lib.IntN.{ℤ, pos, negsuc, neg_ℤ, nat_abs, ◌+ℤ◌, ◌-ℤ◌, ◌*ℤ◌}
use mir.Syntax.{w64}
use mathlib.Core.Bool.{Bool, true, false, not}
use lib.Dec.{T, lit<}
use lib.Signed.{mag, lt_z, ◌<ℤ◌, ◌≤ℤ◌, lt_z_yes, lt_z_no}
use mir.Val.{SFits, to_z, of_z}
use mir.ValLaws.{to_z-of_z}
use Rattle.geometry.specs.inner.Sides.{Within}
use Rattle.geometry.proofs.Signed.{◌⊖◌, ⊖-ind, sub_is}

pub abs_neg : (z : ℤ) → nat_abs (neg_ℤ z) ≡ nat_abs z
abs_neg (pos zero) = refl
abs_neg (pos (suc n)) = refl
abs_neg (negsuc n) = refl

abs-⊖ : (a b k : ℕ) → a ≤ k + b → b ≤ k + a → nat_abs (a ⊖ b) ≤ k
abs-⊖ a b k h i = ⊖-ind (λ z. nat_abs z ≤ k) a b (λ l e. omega arith) (λ l e. omega arith)

abs-+ : (x y : ℤ) → nat_abs (x +ℤ y) ≤ nat_abs x + nat_abs y
abs-+ (pos a) (pos b) = omega arith
abs-+ (pos a) (negsuc b) = rw (sub_is a (suc b)) (abs-⊖ a (suc b) (a + suc b) (omega arith) (omega arith))
abs-+ (negsuc a) (pos b) = rw (sub_is b (suc a)) (abs-⊖ b (suc a) (suc a + b) (omega arith) (omega arith))
abs-+ (negsuc a) (negsuc b) = omega arith

abs-* : (x y : ℤ) → nat_abs (x *ℤ y) ≡ nat_abs x * nat_abs y
abs-* (pos a) (pos b) = refl
abs-* (pos a) (negsuc b) = abs_neg (pos (a * suc b))
abs-* (negsuc a) (pos b) = abs_neg (pos (suc a * b))
abs-* (negsuc a) (negsuc b) = refl

pub within_pos : {k n : ℕ} → n ≤ k → Within k (pos n)
within_pos h = record { within = h }

pub within_more : {j k : ℕ} {z : ℤ} → Within j z → j ≤ k → Within k z
within_more f h = record { within = omega (arith, f.within) }

pub within_sub : {j k : ℕ} {x y : ℤ} (i : ℕ) → Within j x → Within k y → j + k ≤ i → Within i (x -ℤ y)
within_sub {j} {k} {x} {y} i f g h = record { within = omega (arith, abs-+ x (neg_ℤ y), abs_neg y, f.within, g.within) }

pub within_mul : {j k : ℕ} {x y : ℤ} (i : ℕ) → Within j x → Within k y → j * k ≤ i → Within i (x *ℤ y)
within_mul {j} {k} {x} {y} i f g h = record { within = omega (arith, abs-* x y, mul-le-mul f.within g.within) }

pub within_fits : {k : ℕ} {z : ℤ} → Within k z → k < 2 ^ 63 → SFits w64 z
within_fits {k} {z = pos n} f h = record { sfits = omega (arith, f.within) }
within_fits {k} {z = negsuc n} f h = record { sfits = omega (arith, f.within) }

-- a turn fits
pub turn_fits : {z : ℤ} → Within 2200000000 z → SFits w64 z
turn_fits w = within_fits w (lit< tt)

-- the difference of two naturals
pub within_gap : (k a b : ℕ) → a ≤ k → b ≤ k → Within k (pos a -ℤ pos b)
within_gap k a b h i = record { within = go a b h i }
  where
    go : (a b : ℕ) → a ≤ k → b ≤ k → nat_abs (pos a -ℤ pos b) ≤ k
    go a zero h i = omega arith
    go a (suc b) h i = rw (sub_is a (suc b)) (abs-⊖ a (suc b) k (omega arith) (omega arith))

-- A signed value goes through its bits wherever the machine reads it. `ok` is a call's `.ok`, and `e` what it ensures of its result
pub read : {z v : ℤ} → mag z < 2 ^ 63 → z ≡ v → to_z w64 (of_z w64 z) ≡ v
read {z} ok e = to_z-of_z w64 z (record { sfits = ok }) ∙ e

-- what a test of two signed numbers says
pub test_yes : (x y : ℤ) {t : Bool} → t ≡ true → t ≡ lt_z x y → x <ℤ y
test_yes x y e f = lt_z_yes (subst T (sym e ∙ f) tt)

pub test_no : (x y : ℤ) {t : Bool} → t ≡ false → t ≡ lt_z x y → y ≤ℤ x
test_no x y e f = lt_z_no (subst (λ (b : Bool). T (not b)) (sym e ∙ f) tt)

-- the same of a test in the code itself, of two locals
module _ (x y : ℤ) (fx : SFits w64 x) (fy : SFits w64 y) where
  pub here_yes : lt_z (to_z w64 (of_z w64 x)) (to_z w64 (of_z w64 y)) ≡ true → x <ℤ y
  here_yes e = test_yes x y (sym e ∙ e) (sym e ∙ (λ i. lt_z (to_z-of_z w64 x fx i) (to_z-of_z w64 y fy i)))

  pub here_no : lt_z (to_z w64 (of_z w64 x)) (to_z w64 (of_z w64 y)) ≡ false → y ≤ℤ x
  here_no e = test_no x y (sym e ∙ e) (sym e ∙ (λ i. lt_z (to_z-of_z w64 x fx i) (to_z-of_z w64 y fy i)))

pub fits_zero : SFits w64 (pos 0)
fits_zero = record { sfits = lit< tt }
