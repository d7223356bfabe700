use Rattle.search.specs.inner.Parts.{Passed, via, ahead}
use Rattle.search.proofs.Relaxing.{NearBefore}
use Rattle.search.proofs.relax.Given as goal

abbrev pub invariant-loop-q : goal.invariant-loop-q
invariant-loop-q g l =
    Passed (ahead l.places l.by) (via l.places l.by) (NearBefore l.blocks (g.S.Straights.clear l.straights) l.by.mark l.first l.q) l.initial.list.order l.initial.list.spot l.initial.key l.list.order l.list.spot l.key l.list.sums l.low l.by.left
