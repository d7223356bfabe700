use mathlib.Core.Path.{◌≡◌}
use Prim.Native.Nat.{ℕ, ◌<◌, ◌≤◌}
use Rattle.geometry.specs.Words.{word}
use Rattle.heaps.proofs.least_sum.Given as goal

abbrev pub invariant-loop-j : goal.invariant-loop-j
invariant-loop-j l = (l.low.from ≤ l.j) × ((k : ℕ) → l.low.from ≤ k → k < l.j → word l.sums k ≡ l.low.sum → ⊥)
