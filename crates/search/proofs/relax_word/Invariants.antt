use Rattle.search.specs.inner.Parts.{via, ahead}
use Rattle.search.proofs.Words.{Passing}
use Rattle.search.proofs.relax_word.Given as goal

abbrev pub invariant-loop-rest : goal.invariant-loop-rest
invariant-loop-rest l =
    Passing (ahead l.places l.by) (via l.places l.by) l.w l.base l.initial.list.order l.initial.list.spot l.initial.key l.list.order l.list.spot l.key l.list.sums l.low l.by.left l.rest

abbrev pub decreases-loop-rest : goal.decreases-loop-rest
decreases-loop-rest l = l.rest
