-- The graph that a run is routed in. Rules 11 to 13 and 21: marks are vertices, clear straights are edges.
use Rattle.std.specs.Prelude.{◌≡◌, List, true, ℕ}
use Rattle.lengths.specs.Length.{length_of}
use Rattle.lengths.specs.Charge.{charge}
use Rattle.paths.specs.Path.{Graph}
use Rattle.tables.specs.Tables.{Records, figure_of, is_corner, place_of, pair_byte}

-- the straight between two marks is clear, as the pair table says
abbrev pub ByBytes : List ℕ → ℕ → ℕ → Type 0
ByBytes pairs v u = pair_byte pairs v u ≡ 254

-- what a straight costs: what it is charged under the figure that the yard keeps
unfoldable pub cost : Records → ℕ → ℕ → ℕ
cost R v u = charge (figure_of R.runs) (length_of (place_of R v) (place_of R u))

-- a route bends at corners of present blocks, and takes clear straights between different marks
abbrev pub graph : Records → (ℕ → ℕ → Type 0) → Graph
graph R Clear = record { Inner = λ u. is_corner R.blocks u ≡ true; Edge = λ v u. (v ≡ u → ⊥) × Clear v u; cost = cost R }

-- the same by lengths alone, as it was before there was a figure
abbrev pub plain_graph : Records → (ℕ → ℕ → Type 0) → Graph
plain_graph R Clear = record { Inner = (graph R Clear).Inner; Edge = (graph R Clear).Edge; cost = λ v u. length_of (place_of R v) (place_of R u) }
