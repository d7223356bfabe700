-- Segments at the edge of the square S of the trial yards, and their rectangles.
use mathlib.Core.List.{List, [], ◌∷◌}
use Prim.Native.Nat.{ℕ, zero, suc, ◌<◌}
use native.Mathlib.Omega.{arith}
use Rattle.geometry.specs.Words.{Point, point}
use Rattle.geometry.specs.Obstruction.{corner_at, next_corner, turn, side_turn, along, LeftOf, Obstructs}
use Rattle.geometry.specs.Overlap.{least, greatest, Overlaps}
use Rattle.geometry.proofs.Obstructing.{obstructs_iff}
use Rattle.geometry.proofs.Overlapping.{obstructs_overlaps}

abbrev pub S : List Point
S = point 10 10 ∷ point 20 10 ∷ point 20 20 ∷ point 10 20 ∷ []

-- along a side, and beyond it at both ends
pub along_side : Overlaps S (point 5 20) (point 25 20) → ⊥
unfolding Overlaps least greatest
along_side o = omega (arith, o.1.1)

pub along_side_clear : Obstructs S (point 5 20) (point 25 20) → ⊥
along_side_clear h = along_side (obstructs_overlaps S _ _ (omega arith) h)

-- ending on a corner
pub at_corner : Overlaps S (point 0 0) (point 10 10) → ⊥
unfolding Overlaps least greatest
at_corner o = omega (arith, o.0.0)

pub at_corner_clear : Obstructs S (point 0 0) (point 10 10) → ⊥
at_corner_clear h = at_corner (obstructs_overlaps S _ _ (omega arith) h)

-- a single place inside: it overlaps, and it is hidden
pub single : Overlaps S (point 15 15) (point 15 15)
unfolding Overlaps least greatest
single = ((omega arith, omega arith), (omega arith, omega arith))

pub single_hidden : Obstructs S (point 15 15) (point 15 15)
unfolding turn along
single_hidden = (1, 0, record { whole = omega arith; within = omega arith; left = each })
  where
    each : (k : ℕ) → k < 4 → LeftOf (corner_at S k) (corner_at S (next_corner S k)) 1 0 (point 15 15) (point 15 15)
    each zero l = record { lt = tt }
    each (suc zero) l = record { lt = tt }
    each (suc (suc zero)) l = record { lt = tt }
    each (suc (suc (suc zero))) l = record { lt = tt }
    each (suc (suc (suc (suc k)))) l = absurd (omega arith)

-- past a corner, too near for the rectangles, and clear
pub near_corner : Overlaps S (point 4 14) (point 14 4)
unfolding Overlaps least greatest
near_corner = ((omega arith, omega arith), (omega arith, omega arith))

pub near_clear : Obstructs S (point 4 14) (point 14 4) → ⊥
unfolding side_turn turn
near_clear h = (((obstructs_iff S (point 4 14) (point 14 4)).0 h).pairs 3 0 (omega arith) (omega arith) (record { le = tt }) (record { le = tt })).lt

-- an absent block
pub absent : (a b : Point) → Overlaps [] a b → ⊥
unfolding Overlaps greatest
absent a b o = omega (arith, o.0.1)
