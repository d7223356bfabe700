-- Signed numbers of 32 bits.
use mathlib.Core.Path.{◌≡◌, ◌∙◌}
use Prim.Native.Nat.{ℕ, ◌^◌, ◌<◌}
use native.Mathlib.Omega.{arith}
use lib.IntN.{ℤ, pos, negsuc}
use lib.Signed.{mag}
use mir.Syntax.{w32}
use mir.Val.{SFits, to_z, of_z}
use mir.ValLaws.{to_z-of_z}
use Rattle.geometry.specs.inner.Sides.{Within}

-- a signed value goes through its bits wherever the machine reads it: `ok` is a call's `.ok`, and `e` what it ensures of its result
pub read : {z v : ℤ} → mag z < 2 ^ 31 → z ≡ v → to_z w32 (of_z w32 z) ≡ v
read {z} ok e = to_z-of_z w32 z (record { sfits = ok }) ∙ e

pub within_fits : {k : ℕ} {z : ℤ} → Within k z → k < 2 ^ 31 → SFits w32 z
within_fits {k} {z = pos n} f h = record { sfits = omega (arith, f.within) }
within_fits {k} {z = negsuc n} f h = record { sfits = omega (arith, f.within) }
