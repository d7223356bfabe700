use Rattle.tables.specs.Tables.{stored}
use Rattle.settling.proofs.States.{State}
use Rattle.settling.proofs.settle.Given as goal

abbrev pub invariant-loop-at : goal.invariant-loop-at
invariant-loop-at g l = State (stored l.blocks l.runs) (g.S.Straights.clear l.straights) l.m l.list.order l.list.spot l.list.sums l.u l.n l.key

abbrev pub decreases-loop-at : goal.decreases-loop-at
decreases-loop-at g l = l.n
