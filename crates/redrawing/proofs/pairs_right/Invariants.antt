use Rattle.redrawing.specs.inner.Rows.{RowsRight}
use Rattle.tables.specs.Tables.{stored}
use Rattle.redrawing.proofs.pairs_right.Given as goal

abbrev pub invariant-loop-j : goal.invariant-loop-j
invariant-loop-j l = RowsRight (stored l.blocks l.runs) l.pairs l.j
