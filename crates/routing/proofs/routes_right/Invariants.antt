use Prim.Native.Nat.{◌≤◌}
use Rattle.tables.specs.Tables.{stored}
use Rattle.routing.proofs.Written.{Upto}
use Rattle.routing.proofs.routes_right.Given as goal

abbrev pub invariant-loop-k : goal.invariant-loop-k
invariant-loop-k l = (l.k ≤ 24) × Upto (stored l.blocks l.runs) l.pairs l.routes l.k
