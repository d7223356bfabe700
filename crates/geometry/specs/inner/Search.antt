-- The lowest block that hides a segment, as the search for it answers.
use Rattle.std.specs.Prelude.{List, ℕ, ◌<◌, ◌≤◌, Option, Some, None}
use Rattle.geometry.specs.Words.{Point}
use Rattle.geometry.specs.Obstruction.{Hidden}

-- n is the lowest of the numbers from..to whose block hides the segment
pub record LowestIs (blocks : List ℕ) (from to : ℕ) (a b : Point) (n : ℕ) : Type 0 where
  pub after : from ≤ n
  pub before : n < to
  pub hides : Hidden blocks n a b
  pub lowest : (k : ℕ) → from ≤ k → k < n → Hidden blocks k a b → ⊥

-- what each answer says
abbrev pub Lowest : List ℕ → ℕ → ℕ → Point → Point → Option ℕ → Type 0
Lowest blocks from to a b (Some n) = LowestIs blocks from to a b n
Lowest blocks from to a b None = (k : ℕ) → from ≤ k → k < to → Hidden blocks k a b → ⊥
