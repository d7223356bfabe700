use Rattle.redrawing.specs.inner.Rows.{RowRight}
use Rattle.tables.specs.Tables.{stored}
use Rattle.redrawing.proofs.row_right.Given as goal

abbrev pub invariant-loop-i : goal.invariant-loop-i
invariant-loop-i l = RowRight (stored l.blocks l.runs) l.pairs l.j l.i
