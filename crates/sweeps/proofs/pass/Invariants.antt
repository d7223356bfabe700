use mathlib.Core.Path.{◌≡◌}
use Prim.Native.Nat.{◌*◌, ◌<◌}
use Rattle.crossings.specs.Grid.{net}
use Rattle.crossings.specs.inner.Charts.{ruled, axis_by}
use Rattle.crossings.specs.inner.Directions.{code}
use Rattle.sweeps.specs.inner.Keys.{lanes}
use Rattle.sweeps.proofs.Passing.{Passing}
use Rattle.sweeps.proofs.pass.Given as goal

abbrev pub invariant-loop-k : goal.invariant-loop-k
invariant-loop-k l = (l.c < 300000000000000) × (l.turn ≡ 1638401 * axis_by (code l.d)) × Passing (net l.blocks (ruled l.xs l.nx l.ys l.ny)) (lanes l.xs l.ys l.steps l.end) (code l.d) l.line l.n l.initial.top l.initial.low l.top l.low l.moved l.c l.k
