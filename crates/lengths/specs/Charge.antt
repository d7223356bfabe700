-- What a straight is charged. Rule 11.
use Rattle.std.specs.Prelude.{ℕ, zero, suc, max}

-- by the figure and its length: the larger of the two, and nothing where the length is 0
unfoldable pub charge : ℕ → ℕ → ℕ
charge figure zero = zero
charge figure (suc length) = max figure (suc length)
