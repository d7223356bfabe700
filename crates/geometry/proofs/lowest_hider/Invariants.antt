use Prim.Native.Nat.{ℕ, ◌-◌, ◌<◌, ◌≤◌}
use Rattle.geometry.specs.Words.{point_of}
use Rattle.geometry.specs.Obstruction.{Hidden}
use Rattle.geometry.proofs.lowest_hider.Given as goal

abbrev pub invariant-loop-n : goal.invariant-loop-n
invariant-loop-n l = (l.from ≤ l.left) × ((k : ℕ) → l.from ≤ k → k < l.left → Hidden l.blocks k (point_of l.a) (point_of l.b) → ⊥)

abbrev pub decreases-loop-n : goal.decreases-loop-n
decreases-loop-n l = l.to - l.left
