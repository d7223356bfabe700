use Prim.Native.Nat.{◌+◌, ◌*◌}
use Rattle.adjacency.specs.inner.Adjacent.{Entered}
use Rattle.adjacency.proofs.enter_row.Given as goal

abbrev pub invariant-loop-k : goal.invariant-loop-k
invariant-loop-k l = Entered l.blocks l.pairs l.adj (l.start + 16 * l.k)
