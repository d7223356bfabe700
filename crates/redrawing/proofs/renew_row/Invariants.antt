use Rattle.tables.specs.Tables.{stored}
use Rattle.redrawing.specs.inner.Rows.{Renewed, InRow}
use Rattle.redrawing.proofs.renew_row.Given as goal

abbrev pub invariant-loop-i : goal.invariant-loop-i
invariant-loop-i l = Renewed (stored l.blocks l.runs) (InRow l.k l.i) l.initial.pairs l.pairs
