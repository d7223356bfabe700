-- A whole number below 2^53 divided by 4,096 as floats is exact.
use mathlib.Core.Path.{◌≡◌, refl, sym, ap, ◌∙◌}
use mathlib.Core.Bool.{Bool, true, false}
use Prim.Native.Nat.{ℕ, suc, ◌+◌, ◌*◌, ◌^◌, ◌<◌}
use native.Mathlib.Nat.{le_of_lt, lt_of_lt_of_le, zero-lt-suc, mul-pos, mul_comm, mul_assoc, mul_left_comm, mul_right_comm, eq_of_mul-eq-mul_right}
use lib.Dec.{T, lit≤, le→leb, lt→ltb}
use lib.IntN.{ℤ, pos, negsuc, nat_abs}
use lib.Pow.{pow-add, pow_mono, shl_lt}
use lib.Ieee.{Float, nan, inf, fin, binary64, unlike, up, down, div, of_bits, of_int, in_float, round}
use lib.Ieee.Exact.{HasValue, round_exact}
use lib.Ieee.Back.{round_whole}
use lib.Ieee.Fits.{down_pos, div-fits}
use Rattle.curves.specs.Floats.{negative, Exact}
use Rattle.curves.specs.inner.Numerators.{Moderate}

rescale : (x : Float) (s : Bool) (w l a c : ℕ) → 0 < l → a * l ≡ w * c → HasValue x s w l → HasValue x s a c
rescale (fin t m e) s w l a c p h v = (
  v.0,
  eq_of_mul-eq-mul_right l p (m * up e * c) (a * down e)
      (mul_right_comm (m * up e) c l
      ∙ ap (λ (y : ℕ). y * c) v.1
      ∙ mul_right_comm w (down e) c
      ∙ ap (λ (y : ℕ). y * down e) (sym h)
      ∙ mul_right_comm a l (down e)),
)
rescale nan s w l a c p h v = elim v [ ]
rescale (inf _) s w l a c p h v = elim v [ ]

regroup : (n d a b c : ℕ) → c ≡ a * b → n * d * c ≡ n * a * (b * d)
regroup n d a b c e = rw e (simp (mul_assoc, mul_comm, mul_left_comm))

roomy : (n : ℕ) → n < 2 ^ 53 → n * 2 ^ 1062 < 2 ^ (1074 + 1024)
roomy n h = lt_of_lt_of_le (shl_lt 53 1062 h) (pow_mono {i = 53 + 1062} {j = 1074 + 1024} (lit≤ tt))

-- what `div` hands to `round` at a float of the value n
rounded : (s : Bool) (n w d : ℕ) → n < 2 ^ 53 → 0 < d → w ≡ n * d → HasValue (round binary64 s w (4096 * d)) s n 4096
rounded s n w d h p e =
    let q = mul-pos (zero-lt-suc 4095) p in
    rescale (round binary64 s w (4096 * d)) s w (4096 * d) n 4096 q (rw e (simp (mul_assoc, mul_comm, mul_left_comm)))
    (round_exact binary64 s w (4096 * d) n 1062 q h (roomy n h) (rw e (regroup n d (2 ^ 1062) 4096 (2 ^ 1074) (pow-add 2 1062 12))))

same_sign : (t : Bool) → unlike t false ≡ t
same_sign true = refl
same_sign false = refl

quotient : (s : Bool) (x : Float) (n : ℕ) → n < 2 ^ 53 → HasValue x s n 1 → HasValue (div binary64 x (of_bits binary64 0x40b0000000000000)) s n 4096
unfolding div of_bits
quotient s (fin t m e) n h v = rw (same_sign t ∙ v.0) (rounded s n (m * up e * 1) (down e) h (down_pos e) v.1)
quotient s nan n h v = elim v [ ]
quotient s (inf _) n h v = elim v [ ]

-- the leaf: a numerator as a float, divided by 4,096
abbrev pub over : ℤ → Float
over z = div binary64 (of_int binary64 z) (of_bits binary64 0x40b0000000000000)

over_value : (z : ℤ) → nat_abs z < 2 ^ 53 → HasValue (over z) (negative z) (nat_abs z) 4096
unfolding of_int
over_value (pos n) h = quotient false (round binary64 false n 1) n h (round_whole binary64 false n (le_of_lt h))
over_value (negsuc n) h = quotient true (round binary64 true (suc n) 1) (suc n) h (round_whole binary64 true (suc n) (le_of_lt h))

pub exact : (z : ℤ) → Moderate z → Exact z (over z)
unfolding Moderate
exact z h = record { value = over_value z h; held = div-fits binary64 (of_int binary64 z) (of_bits binary64 0x40b0000000000000) }

pub in_float_lem : (z : ℤ) → Moderate z → T (in_float binary64 z)
unfolding Moderate in_float
in_float_lem (pos n) h = le→leb n (2 ^ 53) (le_of_lt h)
in_float_lem (negsuc n) h = lt→ltb n (2 ^ 53) (le_of_lt h)
