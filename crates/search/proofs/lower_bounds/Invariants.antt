use Prim.Native.Nat.{◌≤◌}
use Rattle.tables.specs.Tables.{stored}
use Rattle.search.specs.inner.LowerBound.{lower_bound}
use Rattle.search.specs.inner.Keys.{Looked}
use Rattle.search.proofs.lower_bounds.Given as goal

abbrev pub invariant-loop-j : goal.invariant-loop-j
invariant-loop-j l = (l.j ≤ l.n) × Looked (lower_bound (stored l.blocks l.runs) l.first) l.waiting l.j l.bounds
