use Prim.Native.Nat.{ℕ, ◌<◌, ◌≤◌}
use Rattle.geometry.specs.Words.{point_of, block_words, corners}
use Rattle.geometry.specs.Overlap.{Overlaps}
use Rattle.geometry.proofs.first_overlapping.Given as goal

abbrev pub invariant-loop-n : goal.invariant-loop-n
invariant-loop-n l = (k : ℕ) → l.from ≤ k → k < l.n → Overlaps (corners (block_words l.blocks k)) (point_of l.a) (point_of l.b) → ⊥
