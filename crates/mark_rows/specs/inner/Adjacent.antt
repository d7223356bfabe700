-- Which corners a mark has a clear straight to, by any notion of clear, and rows of them for all marks.
use Rattle.std.specs.Prelude.{List, ℕ}
use Rattle.adjacency.specs.inner.Adjacent.{AdjacentBy, RowsBy}

-- corner u is present, and its straight to another mark v is clear
abbrev pub Adjacent : List ℕ → (ℕ → ℕ → Type 0) → ℕ → ℕ → Type 0
Adjacent = AdjacentBy

-- the first n words of a row of three for each mark say which corners are near: word 3 v + q those from 64 q on that are near mark v
abbrev pub Rows : List ℕ → (ℕ → ℕ → Type 0) → List ℕ → ℕ → Type 0
Rows blocks Clear = RowsBy blocks Clear 720
