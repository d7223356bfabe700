-- What the calls that fill lent lists leave: a word that tells the kind, and the points. Rule 42.
use Rattle.std.specs.Prelude.{◌≡◌, ◌&&◌, List, [], ◌∷◌, ℕ, ◌*◌, eqb, Float, length, get_or}
use Rattle.geometry.specs.Words.{Point}
use Rattle.tables.specs.Tables.{Tables}
use Rattle.curves.specs.Curve.{bend_at, whole}
use Rattle.pieces.specs.Pieces.{Shape, nothing, straight, bend}
use Rattle.pieces.specs.Showing.{origin, Row, bend_points}
use Rattle.drawn_routes.specs.Calls.{Asked, stored_piece}

-- the kind of a piece: 0 none, 1 a straight, 2 a bend
abbrev pub kind_of : Shape → ℕ
kind_of nothing = 0
kind_of (straight a b) = 1
kind_of (bend a p c) = 2

abbrev pub bend_kind : Shape → ℕ
bend_kind nothing = 0
bend_kind (straight a b) = 0
bend_kind (bend a p c) = 2

-- the two or three points of a piece; 0 where there is none
abbrev pub piece_points : Shape → ℕ → Point
piece_points nothing t = origin
piece_points (straight a b) t = get_or (a ∷ b ∷ []) t origin
piece_points (bend a p c) t = get_or (bend_at a p c 0 ∷ whole p ∷ bend_at a p c 8 ∷ []) t origin

-- the whole contract of a call that fills one word and n points from a piece
pub record Filled (n : ℕ) (kind : Shape → ℕ) (row : Shape → ℕ → Point) (T : Tables) (m k : ℕ) (word : List ℕ) (points : List Float) (r : ℕ) (word' : List ℕ) (points' : List Float) : Type 0 where
  pub asked : Asked (eqb (length word) 1 && eqb (length points) (2 * n)) T m r
  pub refused : (r ≡ 0 → ⊥) → (word' ≡ word) × (points' ≡ points)
  pub done : r ≡ 0 → (word' ≡ kind (stored_piece T m k) ∷ []) × Row (row (stored_piece T m k)) n points'

-- `yard_piece`
abbrev pub PieceFilled : Tables → ℕ → ℕ → List ℕ → List Float → ℕ → List ℕ → List Float → Type 0
PieceFilled = Filled 3 kind_of piece_points

-- `yard_bend`
abbrev pub BendFilled : Tables → ℕ → ℕ → List ℕ → List Float → ℕ → List ℕ → List Float → Type 0
BendFilled = Filled 9 bend_kind bend_points
