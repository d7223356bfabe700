-- A numerator has one float, and a drawn point one pair of them.
use mathlib.Core.Path.{◌≡◌, sym, ap, ◌∙◌}
use mathlib.Core.Bool.{Bool, cond}
use Prim.Native.Nat.{ℕ, ◌+◌, ◌*◌, ◌-◌, ◌/◌, ◌^◌, ◌<◌}
use native.Mathlib.Nat.{mul-div_cancel, mul_comm, mul_assoc}
use lib.IntN.{ℤ, nat_abs}
use lib.Ieee.{Float, nan, inf, fin, binary64, up, down, prec, top, hid, size, to_bits, of_bits}
use lib.Ieee.Bits.{of_bits-to_bits}
use lib.Ieee.Exact.{HasValue}
use lib.Ieee.Fits.{down_pos}
use lib.Pow.{pow-add}
use Rattle.geometry.specs.Words.{Point}
use Rattle.curves.specs.declared.Spot.{Spot}
use Rattle.curves.specs.Floats.{negative, Exact}
use Rattle.curves.specs.Curve.{At}

-- the bits of a float tell its value alone
written : Bool → ℕ → ℕ
written s n = cond s (top binary64) 0 + (size n - prec binary64) * hid binary64 + n / 2 ^ (size n - prec binary64)

scaled : (m d z : ℕ) → 0 < d → m * 4096 ≡ z * d → m * 2 ^ 1074 / d ≡ z * 2 ^ 1062
scaled m d z p e = ap (λ (x : ℕ). x / d) product ∙ mul-div_cancel (z * 2 ^ 1062) p
  where
    product : m * 2 ^ 1074 ≡ z * 2 ^ 1062 * d
    product =
        ap (λ (x : ℕ). m * x) (pow-add 2 12 1062) ∙ sym (mul_assoc m (2 ^ 12) (2 ^ 1062)) ∙ ap (λ (x : ℕ). x * 2 ^ 1062) e
        ∙ mul_assoc z d (2 ^ 1062) ∙ ap (λ (x : ℕ). z * x) (mul_comm d (2 ^ 1062)) ∙ sym (mul_assoc z (2 ^ 1062) d)

bits_of : (x : Float) (s : Bool) (z : ℕ) → HasValue x s z 4096 → to_bits binary64 x ≡ written s (z * 2 ^ 1062)
unfolding to_bits written
bits_of (fin t m e) s z v = rw (v.0, scaled (m * up e) (down e) z (down_pos e) v.1)
bits_of nan s z v = elim v [ ]
bits_of (inf _) s z v = elim v [ ]

pub exact_unique : (z : ℤ) (x y : Float) → Exact z x → Exact z y → x ≡ y
exact_unique z x y a b =
    sym (of_bits-to_bits binary64 x a.held)
    ∙ ap (of_bits binary64) (bits_of x (negative z) (nat_abs z) a.value ∙ sym (bits_of y (negative z) (nat_abs z) b.value))
    ∙ of_bits-to_bits binary64 y b.held

pub at_unique : (p : Point) (s t : Spot) → At p s → At p t → s ≡ t
at_unique p s t a b =
    let e = exact_unique _ _ _ a.east b.east in
    let n = exact_unique _ _ _ a.north b.north in
    λ i. record { east = e i; north = n i }
