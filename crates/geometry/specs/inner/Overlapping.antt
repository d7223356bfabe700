-- The first block that overlaps a segment, as the search for it answers.
use Rattle.std.specs.Prelude.{List, ℕ, ◌<◌, ◌≤◌, min, max, Option, Some, None}
use Rattle.coordinates.specs.declared.Limit.TheVariants.{Above, Below}
use Rattle.coordinates.specs.inner.Scans.{CornerPast}
use Rattle.geometry.specs.Words.{Point, block_words, corners}
use Rattle.geometry.specs.Overlap.{Overlaps}

-- along a coordinate, some corner of a record is above the lesser of p and q, and some corner below the greater: i is 1 for east and 2 for north
abbrev pub Across : List ℕ → ℕ → ℕ → ℕ → Type 0
Across ws i p q = CornerPast ws i (Above (min p q)) × CornerPast ws i (Below (max p q))

-- n is the first of the numbers from..to whose block's rectangle overlaps that of the segment
pub record FirstIs (blocks : List ℕ) (from to : ℕ) (a b : Point) (n : ℕ) : Type 0 where
  pub after : from ≤ n
  pub before : n < to
  pub found : Overlaps (corners (block_words blocks n)) a b
  pub passed : (k : ℕ) → from ≤ k → k < n → Overlaps (corners (block_words blocks k)) a b → ⊥

-- what each answer of the search says
abbrev pub FirstOverlapping : List ℕ → ℕ → ℕ → Point → Point → Option ℕ → Type 0
FirstOverlapping blocks from to a b (Some n) = FirstIs blocks from to a b n
FirstOverlapping blocks from to a b None = (k : ℕ) → from ≤ k → k < to → Overlaps (corners (block_words blocks k)) a b → ⊥
