use Prim.Native.Nat.{◌≤◌}
use Rattle.tables.specs.Tables.{stored}
use Rattle.routing.proofs.Written.{Upto}
use Rattle.routing.proofs.all_routes.Given as goal

abbrev pub invariant-loop-m : goal.invariant-loop-m
invariant-loop-m l = (l.m ≤ 24) × Upto (stored l.blocks l.runs) l.pairs l.routes l.m
