use mathlib.Core.Path.{◌≡◌}
use Rattle.tables.proofs.Pairs.{tri}
use Rattle.adjacency.specs.inner.Adjacent.{Entered}
use Rattle.adjacency.proofs.fill_corners.Given as goal

abbrev pub invariant-loop-j : goal.invariant-loop-j
invariant-loop-j l = (l.start ≡ tri l.j) × Entered l.blocks l.pairs l.adj l.start
