-- What the numerators of a drawn point keep to.
use Rattle.std.specs.Prelude.{◌≡◌, ℕ, ◌+◌, ◌*◌, ◌-◌, ◌^◌, ◌<◌, ℤ, nat_abs}

-- a numerator that a float holds
unfoldable pub Moderate : ℤ → Type 0
Moderate z = nat_abs z < 2 ^ 53

-- three numbers in the weights of a curve
pub record Mixed (from to a p c r : ℕ) : Type 0 where
  pub value : r ≡ from * a + (4096 - from - to) * p + to * c
  pub small : r < 268435456
