use Rattle.crossings.specs.Grid.{net}
use Rattle.crossings.specs.inner.Charts.{ruled}
use Rattle.crossings.specs.inner.Directions.{code}
use Rattle.sweeps.specs.inner.Keys.{lanes}
use Rattle.sweeps.proofs.Passing.{Sweeping}
use Rattle.sweeps.proofs.sweep.Given as goal

abbrev pub invariant-loop-line : goal.invariant-loop-line
invariant-loop-line l = Sweeping (net l.blocks (ruled l.xs l.nx l.ys l.ny)) (lanes l.xs l.ys l.steps l.end) (code l.d) l.n l.initial.top l.initial.low l.top l.low l.moved l.line
