-- The value of a 64-bit float, in whole 4,096ths. Rule 41.
use Rattle.std.specs.Prelude.{Bool, true, false, T, ℤ, pos, negsuc, nat_abs, Float}
use Rattle.std.specs.Float.{binary64}
use Rattle.std.specs.Float.Ieee.{fits}
use Rattle.std.specs.Float.Ieee.Exact.{HasValue}

abbrev pub negative : ℤ → Bool
negative (pos n) = false
negative (negsuc n) = true

-- x is the 64-bit float whose value times 4,096 is z: finite, with z's sign, and of the size |z| / 4096; 0 is +0
pub record Exact (z : ℤ) (x : Float) : Type 0 where
  pub value : HasValue x (negative z) (nat_abs z) 4096
  pub held : T (fits binary64 x)
