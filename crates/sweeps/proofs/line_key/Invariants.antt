use mathlib.Core.Path.{◌≡◌}
use Prim.Native.Nat.{◌<◌}
use Rattle.crossings.specs.inner.Directions.{code}
use Rattle.sweeps.specs.inner.Keys.{key_at, lanes, line_key}
use Rattle.sweeps.proofs.line_key.Given as goal

abbrev pub invariant-loop-k : goal.invariant-loop-k
invariant-loop-k l = (l.c < 300000000000000) × (l.c ≡ line_key (lanes l.xs l.ys l.steps l.end) (key_at l.top l.low) (code l.d) l.line l.n l.k)
