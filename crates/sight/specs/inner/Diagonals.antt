-- Two segments that cross away from their ends.
use Rattle.std.specs.Prelude.{ℤ, pos, ◌<ℤ◌}
use Rattle.geometry.specs.Words.{Point}
use Rattle.geometry.specs.Obstruction.{turn}

-- which way x lies of the line from p to q
abbrev pub turn_of : Point → Point → Point → ℤ
turn_of p q x = turn p q 1 (pos x.east) (pos x.north)

-- x lies strictly right of the line from p to q, y strictly left
pub record Apart (p q x y : Point) : Type 0 where
  pub right : turn_of p q x <ℤ pos 0
  pub left : pos 0 <ℤ turn_of p q y

-- the segment from a to b has c on its right and d on its left, and meets the segment from c to d
pub record Crosses (c d a b : Point) : Type 0 where
  pub across : Apart a b c d
  pub between : Apart c d b a
