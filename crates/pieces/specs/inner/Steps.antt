-- What the functions under the calls ask and promise.
use Rattle.std.specs.Prelude.{◌≡◌, cond, List, ℕ, ◌+◌, ◌*◌, ◌-◌, ◌%◌, ◌<◌, ◌≤◌, eqb, Float, length}
use Rattle.geometry.specs.Words.{Point, word}
use Rattle.tables.specs.Tables.{Records, place_of}
use Rattle.curves.specs.Curve.{bend_at, whole, At}
use Rattle.curves.specs.declared.Spot.{Spot}
use Rattle.pieces.specs.Showing.{spot_in}

-- a route record whose marks can be looked up
pub record Drawable (R : Records) (ws : List ℕ) : Type 0 where
  pub blocks : length R.blocks ≡ 408
  pub runs : length R.runs ≡ 121
  pub sized : length ws ≡ 197
  pub count : word ws 2 ≤ 194
  pub marks : (i : ℕ) → i < word ws 2 → word ws (3 + i) < 240

-- the place of mark i of a route record
unfoldable pub mark_place : Records → List ℕ → ℕ → Point
mark_place R ws i = place_of R (word ws (3 + i))

-- the bend at mark i, at t eighths
abbrev pub turn_at : Records → List ℕ → ℕ → ℕ → Point
turn_at R ws i t = bend_at (mark_place R ws (i - 1)) (mark_place R ws i) (mark_place R ws (i + 1)) t

-- where the straight from mark i starts, and where the straight to mark i ends
unfoldable pub leaving : Records → List ℕ → ℕ → Point
leaving R ws i = cond (eqb i 0) (whole (mark_place R ws i)) (turn_at R ws i 8)

unfoldable pub reaching : Records → List ℕ → ℕ → Point
reaching R ws i = cond (eqb (i + 1) (word ws 2)) (whole (mark_place R ws i)) (turn_at R ws i 0)

-- piece k of a route record is a bend
pub record OnBend (ws : List ℕ) (k : ℕ) : Type 0 where
  pub before_last : k + 3 < 2 * word ws 2
  pub odd : k % 2 ≡ 1

-- a list of n spots whose first t are the drawn points f, exactly
pub record RowTo (f : ℕ → Point) (n t : ℕ) (xs : List Float) : Type 0 where
  pub sized : length xs ≡ 2 * n
  pub each : (j : ℕ) → j < t → At (f j) (spot_in xs j)

-- one spot of a list is written
pub record Put (old : List Float) (t : ℕ) (s : Spot) (new : List Float) : Type 0 where
  pub sized : length new ≡ length old
  pub here : spot_in new t ≡ s
  pub kept : (j : ℕ) → (j ≡ t → ⊥) → spot_in new j ≡ spot_in old j
