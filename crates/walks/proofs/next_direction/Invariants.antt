use Prim.Native.Nat.{ℕ, ◌<◌}
use Rattle.crossings.specs.inner.Charts.{step_of, axis_by}
use Rattle.sweeps.specs.inner.Keys.{key_at, lanes}
use Rattle.walks.specs.inner.Labels.{before_code, label_at, Leading}
use Rattle.walks.proofs.next_direction.Given as goal

abbrev pub invariant-loop-d : goal.invariant-loop-d
invariant-loop-d l = (j : ℕ) → j < l.d-index → Leading (lanes l.xs l.ys l.steps l.end) (label_at (lanes l.xs l.ys l.steps l.end) l.nx (key_at l.top l.low)) l.v (step_of l.steps j l.v) (axis_by j) (before_code l.before) l.key → ⊥
