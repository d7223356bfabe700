-- Small duct yards as theorems about the definitions: bare ones, and some with square S, (10,10) (20,10) (20,20) (10,20), as block 0; run 0 is the only run.
use mathlib.Core.Path.{◌≡◌, refl}
use mathlib.Core.List.{List, [], ◌∷◌}
use Prim.Native.Nat.{ℕ}
use lib.ListN.{replicate}
use Rattle.geometry.specs.Words.{Point, point}
use Rattle.geometry.specs.Obstruction.{turn, side_turn}
use Rattle.lists.specs.Lists.{all_below}
use Rattle.tables.specs.Tables.{Records}
use Rattle.nets.specs.Net.{cost}
use Rattle.crossings.specs.Grid.{net}
use Rattle.ducts.specs.Quote.{grid_of, DuctIs}
use Rattle.trials.proofs.Sight.{obstructed}
use Rattle.duct_trials.proofs.Square.{S, yard, square_judged}
use Rattle.duct_trials.proofs.Yards.{bare, nothing, bare_judged, shows, way, none}

-- what a list of crossings would cost run 0; crossing 66 i + j is that of line i from the west and line j from the south
abbrev Costs : Records → List ℕ → ℕ → Type 0
Costs R us c = cost (net R.blocks (grid_of R 0)) us ≡ c

-- straight from end to end
straight_duct : DuctIs (bare (point 0 0) (point 10 0)) 0 (1 ∷ 10 ∷ 2 ∷ []) (0 ∷ 0 ∷ 10 ∷ 0 ∷ replicate 8708 0)
unfolding shows
straight_duct = way (bare (point 0 0) (point 10 0)) nothing bare_judged (10 ∷ 1 ∷ 0 ∷ 0 ∷ 0 ∷ 0 ∷ []) (66 ∷ []) refl

-- of two ways with one bend, by (0,10) and by (10,0), the one whose second crossing is less far east
east_before_north : DuctIs (bare (point 0 0) (point 10 10)) 0 (1 ∷ 45 ∷ 3 ∷ []) (0 ∷ 0 ∷ 0 ∷ 10 ∷ 10 ∷ 10 ∷ replicate 8706 0)
unfolding shows
east_before_north = way (bare (point 0 0) (point 10 10)) nothing bare_judged (20 ∷ 1 ∷ 1 ∷ 10 ∷ 1 ∷ 0 ∷ 10 ∷ 0 ∷ 1 ∷ 0 ∷ 0 ∷ 0 ∷ []) (1 ∷ 67 ∷ []) refl

-- the other way costs as much
other_way : Costs (bare (point 0 0) (point 10 10)) (0 ∷ 66 ∷ 67 ∷ []) 45
unfolding shows
other_way = refl

-- one bend, then on along S: the line x = 10 is passed, and its crossing listed
one_bend : DuctIs (yard (point 0 0) (point 20 10)) 0 (1 ∷ 55 ∷ 4 ∷ []) (0 ∷ 0 ∷ 0 ∷ 10 ∷ 10 ∷ 10 ∷ 20 ∷ 10 ∷ replicate 8704 0)
unfolding shows
one_bend =
    way (yard (point 0 0) (point 20 10)) (obstructed S) square_judged
    (30 ∷ 1 ∷ 1 ∷ 20 ∷ 1 ∷ 0 ∷ 30 ∷ 1 ∷ 1 ∷ 20 ∷ 1 ∷ 1 ∷ 10 ∷ 1 ∷ 0 ∷ 20 ∷ 1 ∷ 1 ∷ 10 ∷ 0 ∷ 1 ∷ 0 ∷ 0 ∷ 0 ∷ 10 ∷ 0 ∷ 1 ∷ []) (1 ∷ 67 ∷ 133 ∷ []) refl

-- the way by (10,0) and (10,10) is as long and has two bends
two_bends : Costs (yard (point 0 0) (point 20 10)) (0 ∷ 66 ∷ 67 ∷ 133 ∷ []) 80
unfolding shows
two_bends = refl

-- S stands between the ends: round it, and of the two sides the south
round_a_block : DuctIs (yard (point 5 15) (point 25 15)) 0 (1 ∷ 80 ∷ 6 ∷ []) (5 ∷ 15 ∷ 5 ∷ 10 ∷ 10 ∷ 10 ∷ 20 ∷ 10 ∷ 25 ∷ 10 ∷ 25 ∷ 15 ∷ replicate 8700 0)
unfolding shows
round_a_block =
    way (yard (point 5 15) (point 25 15)) (obstructed S) square_judged
    (25 ∷ 2 ∷ 1 ∷ 30 ∷ 2 ∷ 3 ∷ 25 ∷ 2 ∷ 1 ∷ 20 ∷ 2 ∷ 1 ∷ 25 ∷ 2 ∷ 3 ∷ 20 ∷ 2 ∷ 1 ∷ 10 ∷ 1 ∷ 1 ∷ 5 ∷ 1 ∷ 0 ∷ 10 ∷ 1 ∷ 1 ∷ 5 ∷ 0 ∷ 1 ∷ 0 ∷ 0 ∷ 0 ∷ 5 ∷ 0 ∷ 1 ∷ [])
    (0 ∷ 66 ∷ 132 ∷ 198 ∷ 199 ∷ []) refl

-- both ends on one corner of S, which is clear: a path of that crossing alone
one_place_clear : DuctIs (yard (point 10 10) (point 10 10)) 0 (1 ∷ 0 ∷ 1 ∷ []) (10 ∷ 10 ∷ replicate 8710 0)
unfolding shows
one_place_clear = way (yard (point 10 10) (point 10 10)) (obstructed S) square_judged (0 ∷ 0 ∷ 0 ∷ 10 ∷ 0 ∷ 1 ∷ 10 ∷ 1 ∷ 0 ∷ 20 ∷ 1 ∷ 1 ∷ []) [] refl

-- no way to a place inside S, wherever the first end is
no_way_lem : (p : Point) → DuctIs (yard p (point 15 15)) 0 (2 ∷ 0 ∷ 0 ∷ []) (replicate 8712 0)
unfolding obstructed side_turn turn all_below
no_way_lem p = none p (point 15 15) refl

-- both ends there: no way either
one_place_hidden : DuctIs (yard (point 15 15) (point 15 15)) 0 (2 ∷ 0 ∷ 0 ∷ []) (replicate 8712 0)
one_place_hidden = no_way_lem (point 15 15)
