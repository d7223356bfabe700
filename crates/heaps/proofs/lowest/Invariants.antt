use Prim.Native.Nat.{◌≤◌}
use Rattle.geometry.specs.Words.{word}
use Rattle.heaps.specs.inner.Sums.{LowTo}
use Rattle.heaps.proofs.lowest.Given as goal

abbrev pub invariant-loop-j : goal.invariant-loop-j
invariant-loop-j l = (l.lo ≤ l.j) × (l.j ≤ l.hi) × LowTo (word l.sums) l.lo l.hi l.sum l.from l.j
