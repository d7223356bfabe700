use Rattle.lists.proofs.Fills.{FilledTo}
use Rattle.lists.proofs.fill.Given as goal

abbrev pub invariant-loop-x : goal.invariant-loop-x
invariant-loop-x g l = FilledTo l.v l.initial.list l.list l.x-index
