use Rattle.tables.specs.Tables.{stored}
use Rattle.redrawing.specs.inner.Rows.{Renewed, InColumn}
use Rattle.redrawing.proofs.renew_column.Given as goal

abbrev pub invariant-loop-j : goal.invariant-loop-j
invariant-loop-j l = Renewed (stored l.blocks l.runs) (InColumn l.k l.j) l.initial.pairs l.pairs
