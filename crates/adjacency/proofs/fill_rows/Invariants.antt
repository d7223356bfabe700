use lib.ListN.{length}
use Rattle.adjacency.specs.inner.Adjacent.{Said, RowsBy}
use Rattle.adjacency.proofs.fill_rows.Given as goal

abbrev pub invariant-loop-k : goal.invariant-loop-k
invariant-loop-k l = RowsBy l.blocks (Said l.pairs) (length l.initial.adj) l.adj l.k
