-- When a list of corners is a convex polygon, anticlockwise. Rule 16, question 8.
use Rattle.std.specs.Prelude.{List, Bool, ◌||◌, ℕ, eqb, pos, length}
use Rattle.std.specs.Int.Signed.{lt_z}
use Rattle.lists.specs.Lists.{all_below}
use Rattle.geometry.specs.Words.{Point}
use Rattle.geometry.specs.Obstruction.{corner_at, next_corner, side_turn}

-- corner l is an end of side k, or lies strictly left of it
unfoldable pub side_test : List Point → ℕ → ℕ → Bool
side_test ps k l =
    eqb l k || eqb l (next_corner ps k)
    || lt_z (pos 0) (side_turn ps (corner_at ps l) k)

-- question 8: every other corner is strictly left of every side
unfoldable pub convex : List Point → Bool
convex ps = all_below (length ps) (λ k. all_below (length ps) (λ l. side_test ps k l))
