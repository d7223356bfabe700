-- Every point of a bend between places of a yard has its floats.
use Prim.Native.Nat.{ℕ, ◌+◌, ◌*◌, ◌-◌, ◌≤◌}
use native.Mathlib.Nat.{mul-le-mul, lt_of_le_of_lt}
use native.Mathlib.Omega.{arith}
use mathlib.Core.Path.{subst}
use lib.Dec.{lit<}
use lib.IntN.{pos}
use Rattle.geometry.specs.Words.{Point}
use Rattle.geometry.specs.inner.Bounds.{InRange}
use Rattle.curves.specs.declared.Spot.{Spot}
use Rattle.curves.specs.Curve.{cube, curve, bend_at, whole, At}
use Rattle.curves.specs.inner.Numerators.{Moderate}
use Rattle.curves.proofs.Quotients.{over, exact}
use Rattle.curves.proofs.Curves.{cube_small, curve_is}

abbrev pub HasSpot : Point → Type 0
HasSpot p = (s : Spot) × At p s

-- a numerator of at most three weights of a whole place
small : (n : ℕ) → n ≤ 3 * (4096 * 32767) → Moderate (pos n)
unfolding Moderate
small n h = lt_of_le_of_lt h (lit< tt)

small_spot : (p : Point) → p.east ≤ 3 * (4096 * 32767) → p.north ≤ 3 * (4096 * 32767) → HasSpot p
small_spot p e n =
    (record { east = over (pos p.east); north = over (pos p.north) }, record { east = exact (pos p.east) (small _ e); north = exact (pos p.north) (small _ n) })

curve_small : (a p c t : ℕ) → t ≤ 8 → a ≤ 32767 → p ≤ 32767 → c ≤ 32767 → curve a p c t ≤ 3 * (4096 * 32767)
curve_small a p c t h x y z =
    let u : cube (8 - t) ≤ 4096 = omega (arith, cube_small (8 - t) (omega arith)) in
    let v : 4096 - cube (8 - t) - cube t ≤ 4096 = omega arith in
    let w : cube t ≤ 4096 = omega (arith, cube_small t h) in
    subst (λ (n : ℕ). n ≤ 3 * (4096 * 32767)) (curve_is a p c t h)
    (total (cube (8 - t) * a) ((4096 - cube (8 - t) - cube t) * p) (cube t * c) (mul-le-mul u x) (mul-le-mul v y) (mul-le-mul w z))
  where
    total : (d e f : ℕ) → d ≤ 4096 * 32767 → e ≤ 4096 * 32767 → f ≤ 4096 * 32767 → d + e + f ≤ 3 * (4096 * 32767)
    total d e f u v w = omega arith

pub bend_spot_exists : (a p c : Point) (t : ℕ) → t ≤ 8 → InRange a → InRange p → InRange c → HasSpot (bend_at a p c t)
unfolding bend_at
bend_spot_exists a p c t h x y z = small_spot (bend_at a p c t) (curve_small _ _ _ t h x.east y.east z.east) (curve_small _ _ _ t h x.north y.north z.north)

pub whole_spot_exists : (p : Point) → InRange p → HasSpot (whole p)
unfolding whole
whole_spot_exists p x = small_spot (whole p) (omega (arith, x.east)) (omega (arith, x.north))
