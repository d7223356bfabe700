use Rattle.std.specs.Prelude.{map}
use Rattle.crossings.specs.Grid.{net}
use Rattle.crossings.specs.inner.Charts.{ruled}
use Rattle.crossings.specs.inner.Directions.{code}
use Rattle.sweeps.specs.inner.Keys.{key_at, lanes}
use Rattle.walks.specs.inner.Labels.{before_code, label_at}
use Rattle.walks.proofs.Trails.{Going}
use Rattle.walks.proofs.walk.Given as goal

abbrev pub invariant-loop-v : goal.invariant-loop-v
invariant-loop-v l = Going (net l.blocks (ruled l.xs l.nx l.ys l.ny)) (lanes l.xs l.ys l.steps l.end) l.nx l.ny (label_at (lanes l.xs l.ys l.steps l.end) l.nx (key_at l.top l.low)) l.start (map code l.trail) l.v (before_code l.before) l.key l.n

abbrev pub decreases-loop-v : goal.decreases-loop-v
decreases-loop-v l = l.key
