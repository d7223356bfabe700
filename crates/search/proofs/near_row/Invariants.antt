use Prim.Native.Nat.{◌≤◌}
use Rattle.search.specs.inner.Parts.{Row}
use Rattle.search.proofs.near_row.Given as goal

abbrev pub invariant-loop-k : goal.invariant-loop-k
invariant-loop-k l = (l.k ≤ 3) × Row l.blocks l.pairs l.row l.v l.k
