-- What shows a piece: an answer in floats, a list of floats. Rule 41.
use Rattle.std.specs.Prelude.{◌≡◌, Bool, true, false, Option, None, Some, List, ℕ, ◌+◌, ◌*◌, ◌<◌, Float, length, get_or}
use Rattle.std.specs.Float.{nan}
use Rattle.geometry.specs.Words.{Point, point}
use Rattle.curves.specs.Curve.{bend_at, whole, At}
use Rattle.curves.specs.declared.Spot.{Spot}
use Rattle.pieces.specs.declared.DrawnPiece.{DrawnPiece}
use Rattle.pieces.specs.declared.DrawnPiece.TheVariants.{Straight, Bend}
use Rattle.pieces.specs.Pieces.{Shape, nothing, straight, bend}

-- an answer shows a piece: a straight by its two points, a bend by its start, corner and finish
pub data Shows : Shape → Option DrawnPiece → Type 0 where
  shows_nothing : Shows nothing None
  shows_straight : {a b : Point} {s t : Spot} → At a s → At b t → Shows (straight a b) (Some (Straight s t))
  shows_bend : {a p c : Point} {s q t : Spot} → At (bend_at a p c 0) s → At (whole p) q → At (bend_at a p c 8) t → Shows (bend a p c) (Some (Bend s q t))

-- the spot where a drawn piece starts, and the one where it finishes
pub data Spans : DrawnPiece → Spot → Spot → Type 0 where
  straight_spans : {s t : Spot} → Spans (Straight s t) s t
  bend_spans : {s q t : Spot} → Spans (Bend s q t) s t

-- spot t of a list: two floats a spot
abbrev pub spot_in : List Float → ℕ → Spot
spot_in xs t = record { east = get_or xs (2 * t) nan; north = get_or xs (2 * t + 1) nan }

-- a list of n spots that are the drawn points f, exactly
pub record Row (f : ℕ → Point) (n : ℕ) (xs : List Float) : Type 0 where
  pub sized : length xs ≡ 2 * n
  pub each : (j : ℕ) → j < n → At (f j) (spot_in xs j)

abbrev pub origin : Point
origin = point 0 0

-- the nine points of a bend; 0 where there is none
abbrev pub bend_points : Shape → ℕ → Point
bend_points nothing t = origin
bend_points (straight a b) t = origin
bend_points (bend a p c) t = bend_at a p c t

-- whether a piece is a bend
abbrev pub is_bend : Shape → Bool
is_bend nothing = false
is_bend (straight a b) = false
is_bend (bend a p c) = true

-- an answer and a list show the nine points of a piece that is a bend
pub record Bent (p : Shape) (r : Bool) (xs : List Float) : Type 0 where
  pub answer : r ≡ is_bend p
  pub row : Row (bend_points p) 9 xs
