-- The rounded bend at a place, point by point. Rules 40 and 41. A drawn point is counted in 4,096ths of a centimetre.
use Rattle.std.specs.Prelude.{ℕ, ◌+◌, ◌*◌, ◌-◌, pos}
use Rattle.geometry.specs.Words.{Point, point}
use Rattle.curves.specs.declared.Spot.{Spot}
use Rattle.curves.specs.Floats.{Exact}

abbrev pub square : ℕ → ℕ
square n = n * n

abbrev pub cube : ℕ → ℕ
cube n = n * n * n

-- the cubic Bezier curve over four numbers at t eighths, times 512
unfoldable pub bezier : ℕ → ℕ → ℕ → ℕ → ℕ → ℕ
bezier b₀ b₁ b₂ b₃ t = cube (8 - t) * b₀ + 3 * (square (8 - t) * t) * b₁ + 3 * ((8 - t) * square t) * b₂ + cube t * b₃

-- one coordinate of the bend at p between a and c, at t eighths, times 4,096: it starts at p + (a - p) / 8 and finishes at p + (c - p) / 8,
-- which are 7 p + a and 7 p + c eighths, and both control points are p
unfoldable pub curve : ℕ → ℕ → ℕ → ℕ → ℕ
curve a p c t = bezier (7 * p + a) (8 * p) (8 * p) (7 * p + c) t

-- the point at t eighths of the bend at p between a and c
unfoldable pub bend_at : Point → Point → Point → ℕ → Point
bend_at a p c t = point (curve a.east p.east c.east t) (curve a.north p.north c.north t)

-- a place itself
unfoldable pub whole : Point → Point
whole p = point (4096 * p.east) (4096 * p.north)

-- a pair of floats is a drawn point, exactly
pub record At (p : Point) (s : Spot) : Type 0 where
  pub east : Exact (pos p.east) s.east
  pub north : Exact (pos p.north) s.north
