-- The route (0,15) (10,10) (20,10) (30,15) as it is drawn: run 0 of the trial yard S in `docs/RULES.md`.
use mathlib.Core.Path.{◌≡◌, refl}
use mathlib.Core.List.{List, [], ◌∷◌, map}
use Rattle.geometry.specs.Words.{Point, point}
use Rattle.curves.specs.Curve.{bezier, curve, bend_at, whole}
use Rattle.pieces.specs.Pieces.{straight, bend, pieces_from, pieces}

abbrev places : List Point
places = point 0 15 ∷ point 10 10 ∷ point 20 10 ∷ point 30 15 ∷ []

-- in 4,096ths: 35840 is 8.75 and 43520 is 10.625
pub five_pieces : pieces places ≡ straight (point 0 61440) (point 35840 43520) ∷ bend (point 0 15) (point 10 10) (point 20 10)
    ∷ straight (point 46080 40960) (point 76800 40960) ∷ bend (point 10 10) (point 20 10) (point 30 15) ∷ straight (point 87040 43520) (point 122880 61440) ∷ []
unfolding pieces pieces_from bend_at curve bezier whole
five_pieces = refl

pub first_bend : map (bend_at (point 0 15) (point 10 10) (point 20 10)) (0 ∷ 1 ∷ 2 ∷ 3 ∷ 4 ∷ 5 ∷ 6 ∷ 7 ∷ 8 ∷ [])
    ≡ point 35840 43520 ∷ point 37540 42675 ∷ point 38880 42040 ∷ point 39980 41585 ∷ point 40960 41280 ∷ point 41940 41095 ∷ point 43040 41000 ∷ point 44380 40965 ∷ point 46080 40960 ∷ []
unfolding bend_at curve bezier
first_bend = refl
