-- What the small functions of the search read off their lists.
use mathlib.Core.Path.{◌≡◌, refl}
use mathlib.Core.Bool.{Bool, true, false, cond}
use mir.Val.{bool_byte}
use mathlib.Core.List.{List}
use Prim.Native.Nat.{ℕ, ◌+◌, ◌*◌}
use native.Mathlib.Omega.{arith}
use Rattle.geometry.specs.Words.{word}
use Rattle.sweeps.specs.inner.Keys.{key_at}

-- a bool as a number
pub bit_of : (t : Bool) → bool_byte t ≡ cond t 1 0
bit_of true = refl
bit_of false = refl

pub key_read : (top low : List ℕ) (v a b c : ℕ) → a ≡ word top v → b ≡ word low (2 * v + 1) → c ≡ word low (2 * v) → 4294967296 * a + 65536 * b + c ≡ key_at top low v
unfolding key_at
key_read top low v a b c p q r = omega arith
