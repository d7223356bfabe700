-- The crossings of a duct's lines and the steps between them. Rule 34.
use Rattle.std.specs.Prelude.{◌≡◌, cond, List, ℕ, ◌+◌, ◌*◌, ◌/◌, ◌%◌, ◌<◌, eqb, length}
use Rattle.geometry.specs.Words.{Point, point, word}
use Rattle.lengths.specs.Length.{gap}
use Rattle.visibility.specs.Visibility.{Clear}
use Rattle.nets.specs.Net.{Net}
use Rattle.lines.specs.Lines.{index_of}

-- the lines: where they lie from west to east, and from south to north
pub record Grid : Type 0 where
  pub xs : List ℕ
  pub ys : List ℕ

abbrev pub grid : List ℕ → List ℕ → Grid
grid xs ys = record { xs = xs; ys = ys }

-- crossing 66 i + j is that of line i from the west and line j from the south, so that crossings are ordered east before north
pub record Crossing (g : Grid) (v : ℕ) : Type 0 where
  pub east : v / 66 < length g.xs
  pub north : v % 66 < length g.ys

-- the place of a crossing
unfoldable pub place : Grid → ℕ → Point
place g v = point (word g.xs (v / 66)) (word g.ys (v % 66))

-- the next crossing west, south, north or east
pub data Beside (v u : ℕ) : Type 0 where
  west : u + 66 ≡ v → Beside v u
  south : u + 1 ≡ v → v / 66 ≡ u / 66 → Beside v u
  north : u ≡ v + 1 → v / 66 ≡ u / 66 → Beside v u
  east : u ≡ v + 66 → Beside v u

-- a step: to a neighbouring crossing, by a clear straight
pub record Stepping (blocks : List ℕ) (g : Grid) (v u : ℕ) : Type 0 where
  pub from : Crossing g v
  pub to : Crossing g u
  pub beside : Beside v u
  pub clear : Clear blocks (place g v) (place g u)

-- the length of a step, which runs along a line
unfoldable pub reach : Grid → ℕ → ℕ → ℕ
unfolding place
reach g v u = gap (place g v).east (place g u).east + gap (place g v).north (place g u).north

-- the axis of a step: north-south is 0, east-west 1
unfoldable pub axis_of : ℕ → ℕ → ℕ
axis_of v u = cond (eqb (v / 66) (u / 66)) 0 1

-- the net of crossings: a path may stop at a place that is clear
unfoldable pub net : List ℕ → Grid → Net
net blocks g = record { Step = Stepping blocks g; Stop = λ v. Clear blocks (place g v) (place g v); len = reach g; axis = axis_of }

-- the crossing at a place
unfoldable pub crossing_at : Grid → Point → ℕ
unfolding index_of
crossing_at g p = 66 * index_of p.east g.xs + index_of p.north g.ys
