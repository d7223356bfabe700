use Rattle.redrawing.proofs.Rows.{RowUpto}
use Rattle.block_bytes.specs.inner.Aids.{records_of}
use Rattle.redrawing.proofs.redraw_row.Given as goal

abbrev pub invariant-loop-i : goal.invariant-loop-i
invariant-loop-i l = RowUpto (records_of l.aids) l.n l.j l.initial.row l.row l.i
