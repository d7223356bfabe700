-- The lines that a duct may use, in both directions. Rule 33.
use Rattle.std.specs.Prelude.{Bool, true, false, cond, List, [], ◌∷◌, ℕ, zero, suc, eqb, ltb}
use Rattle.geometry.specs.Words.{Point}
use Rattle.tables.specs.Tables.{Records, is_corner, place_of, first_end, second_end}

-- a number put into an increasing list, once
unfoldable pub insert : ℕ → List ℕ → List ℕ
insert x [] = x ∷ []
insert x (y ∷ ys) = cond (ltb x y) (x ∷ y ∷ ys) (cond (eqb x y) (y ∷ ys) (y ∷ insert x ys))

-- where a number stands in a list
unfoldable pub index_of : ℕ → List ℕ → ℕ
index_of x [] = 0
index_of x (y ∷ ys) = cond (eqb x y) 0 (suc (index_of x ys))

-- the east coordinate of a place, or the north one
unfoldable pub coordinate : Bool → Point → ℕ
coordinate true p = p.east
coordinate false p = p.north

-- the coordinates of the standing blocks' corners below mark i
unfoldable pub corner_lines : Records → Bool → ℕ → List ℕ
unfolding insert coordinate
corner_lines R east zero = []
corner_lines R east (suc i) = cond (is_corner R.blocks i) (insert (coordinate east (place_of R i)) (corner_lines R east i)) (corner_lines R east i)

-- with those of run m's two ends: where the lines lie that a duct of run m may use
unfoldable pub lines : Records → ℕ → Bool → List ℕ
unfolding corner_lines
lines R m east = insert (coordinate east (place_of R (second_end m))) (insert (coordinate east (place_of R (first_end m))) (corner_lines R east 192))
