-- The curve's numerators: weights that sum to 4,096.
use mathlib.Core.Path.{◌≡◌, ap, ◌∙◌, subst}
use Prim.Native.Nat.{ℕ, zero, suc, ◌+◌, ◌*◌, ◌-◌, ◌^◌, ◌≤◌}
use native.Mathlib.Nat.{mul-le-mul, lt_of_lt_of_le}
use native.Mathlib.Omega.{arith}
use lib.Dec.{lit≤}
use lib.IntN.{pos}
use lib.Ieee.{Float}
use mir.Syntax.{w32, w64}
use mir.Val.{Fits, to_z, of_z}
use mir.ValLaws.{to_z-of_z}
use Rattle.geometry.specs.Words.{Point}
use Rattle.curves.specs.declared.Spot.{Spot}
use Rattle.curves.specs.Floats.{Exact}
use Rattle.curves.specs.Curve.{cube, bezier, curve, bend_at, whole, At}
use Rattle.curves.specs.inner.Numerators.{Moderate, Mixed}

-- a numerator of 32 bits
pub widened : (n : ℕ) → Fits w32 n → to_z w64 (of_z w64 (pos n)) ≡ pos n
widened n f = to_z-of_z w64 _ (search (lt_of_lt_of_le f.fits (lit≤ {m = 2 ^ 32} {n = 2 ^ 63} tt)))

pub moderate : (n : ℕ) → Fits w32 n → Moderate (pos n)
unfolding Moderate
moderate n f = lt_of_lt_of_le f.fits (lit≤ {m = 2 ^ 32} {n = 2 ^ 53} tt)

pub cube_small : (t : ℕ) → t ≤ 8 → cube t ≤ 512
cube_small t h = mul-le-mul (mul-le-mul h h) h

pub square_small : (t : ℕ) → t ≤ 8 → t * t ≤ 64
square_small t h = mul-le-mul h h

eighths : (P : ℕ → Type 0) → P 0 → P 1 → P 2 → P 3 → P 4 → P 5 → P 6 → P 7 → P 8 → (t : ℕ) → t ≤ 8 → P t
eighths P a b c d e f g h i zero l = a
eighths P a b c d e f g h i (suc zero) l = b
eighths P a b c d e f g h i (suc (suc zero)) l = c
eighths P a b c d e f g h i (suc (suc (suc zero))) l = d
eighths P a b c d e f g h i (suc (suc (suc (suc zero)))) l = e
eighths P a b c d e f g h i (suc (suc (suc (suc (suc zero))))) l = f
eighths P a b c d e f g h i (suc (suc (suc (suc (suc (suc zero)))))) l = g
eighths P a b c d e f g h i (suc (suc (suc (suc (suc (suc (suc zero))))))) l = h
eighths P a b c d e f g h i (suc (suc (suc (suc (suc (suc (suc (suc zero)))))))) l = i
eighths P a b c d e f g h i (suc (suc (suc (suc (suc (suc (suc (suc (suc t))))))))) l = absurd (omega arith)

-- the Bezier curve in the weights of the code
pub curve_is : (a p c t : ℕ) → t ≤ 8 → cube (8 - t) * a + (4096 - cube (8 - t) - cube t) * p + cube t * c ≡ curve a p c t
unfolding curve bezier
curve_is a p c =
    eighths (λ t. cube (8 - t) * a + (4096 - cube (8 - t) - cube t) * p + cube t * c ≡ curve a p c t) (omega arith) (omega arith) (omega arith) (omega arith)
    (omega arith) (omega arith) (omega arith) (omega arith) (omega arith)

pub curve_of : (a p c t from to r : ℕ) → t ≤ 8 → from ≡ cube (8 - t) → to ≡ cube t → Mixed from to a p c r → r ≡ curve a p c t
curve_of a p c t from to r h e f m = m.value ∙ rw (e, f) (curve_is a p c t h)

exactly : (n m : ℕ) (x : Float) → n ≡ m → Exact (pos n) x → Exact (pos m) x
exactly n m x e h = subst (λ (k : ℕ). Exact (pos k) x) e h

pub bend_spot : (a p c : Point) (t n m : ℕ) (s : Spot) → n ≡ curve a.east p.east c.east t → m ≡ curve a.north p.north c.north t
    → Exact (pos n) s.east → Exact (pos m) s.north → At (bend_at a p c t) s
unfolding bend_at
bend_spot a p c t n m s e f x y = record { east = exactly n _ _ e x; north = exactly m _ _ f y }

pub whole_spot : (p : Point) (n m : ℕ) (s : Spot) → n ≡ p.east → m ≡ p.north → Exact (pos (4096 * n)) s.east → Exact (pos (4096 * m)) s.north → At (whole p) s
unfolding whole
whole_spot p n m s e f x y = record { east = exactly _ _ _ (ap (λ (k : ℕ). 4096 * k) e) x; north = exactly _ _ _ (ap (λ (k : ℕ). 4096 * k) f) y }
