use Rattle.code_table.specs.inner.Lines.{RowFrom}
use Rattle.code_table.proofs.block_row.Given as goal

abbrev pub invariant-loop-k : goal.invariant-loop-k
invariant-loop-k l = RowFrom l.words l.places.east l.places.north l.k l.row
