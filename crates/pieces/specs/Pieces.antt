-- The pieces that a route is drawn as. Rule 40.
use Rattle.std.specs.Prelude.{List, [], ◌∷◌, map, ℕ, get_or, take, drop}
use Rattle.geometry.specs.Words.{Point, word}
use Rattle.tables.specs.Tables.{Records, place_of}
use Rattle.curves.specs.Curve.{bend_at, whole}

-- a straight with its two drawn points; the bend at a place, from the place before towards the place after
pub data Shape : Type 0 where
  nothing : Shape
  straight : Point → Point → Shape
  bend : Point → Point → Point → Shape

-- straight and bend in turn along places, the first straight from a drawn point: each straight fills the gap from the bend before to the bend after
unfoldable pub pieces_from : Point → List Point → List Shape
pieces_from s [] = []
pieces_from s (a ∷ []) = []
pieces_from s (a ∷ b ∷ []) = straight s (whole b) ∷ []
pieces_from s (a ∷ p ∷ c ∷ ps) = straight s (bend_at a p c 0) ∷ bend a p c ∷ pieces_from (bend_at a p c 8) (p ∷ c ∷ ps)

unfoldable pub pieces : List Point → List Shape
pieces [] = []
pieces (a ∷ ps) = pieces_from (whole a) (a ∷ ps)

-- the places of a route record's marks: none where there is no way
abbrev pub route_places : Records → List ℕ → List Point
route_places R ws = map (place_of R) (take (word ws 2) (drop 3 ws))

-- piece k of a route record; past the last, nothing
abbrev pub piece_at : Records → List ℕ → ℕ → Shape
piece_at R ws k = get_or (pieces (route_places R ws)) k nothing
