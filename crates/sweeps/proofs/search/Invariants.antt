use Rattle.crossings.specs.Grid.{net}
use Rattle.crossings.specs.inner.Charts.{ruled}
use Rattle.sweeps.specs.inner.Keys.{Fair, total}
use Rattle.sweeps.proofs.search.Given as goal

abbrev pub invariant-loop-nx : goal.invariant-loop-nx
invariant-loop-nx l = Fair (net l.blocks (ruled l.xs l.nx l.ys l.ny)) l.end l.top l.low

abbrev pub decreases-loop-nx : goal.decreases-loop-nx
decreases-loop-nx l = total l.top l.low
