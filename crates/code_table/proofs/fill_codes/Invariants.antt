use Rattle.tables.specs.Tables.{stored}
use Rattle.code_table.proofs.Rows.{RowsUpto}
use Rattle.code_table.proofs.fill_codes.Given as goal

abbrev pub invariant-loop-n : goal.invariant-loop-n
invariant-loop-n l = RowsUpto (stored l.blocks l.runs) l.codes l.n
