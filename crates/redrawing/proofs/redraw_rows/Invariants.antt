use mathlib.Core.Path.{◌≡◌}
use Rattle.block_bytes.specs.inner.Aids.{records_of}
use Rattle.tables.proofs.Pairs.{tri}
use Rattle.redrawing.proofs.Rows.{RowsUpto}
use Rattle.redrawing.proofs.redraw_rows.Given as goal

abbrev pub invariant-loop-j : goal.invariant-loop-j
invariant-loop-j l = (l.start ≡ tri l.j) × RowsUpto (records_of l.aids) l.n l.initial.pairs l.pairs l.j
