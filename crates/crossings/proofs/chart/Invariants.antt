use Rattle.crossings.specs.inner.Charts.{Charted, ruled}
use Rattle.crossings.proofs.chart.Given as goal

abbrev pub invariant-loop-v : goal.invariant-loop-v
invariant-loop-v l = Charted l.blocks (ruled l.xs l.nx l.ys l.ny) l.steps l.v
