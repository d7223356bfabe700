use Rattle.code_table.proofs.Rows.{Upto, from_side}
use Rattle.code_table.proofs.side_row.Given as goal

abbrev pub invariant-loop-i : goal.invariant-loop-i
invariant-loop-i now = Upto (from_side now.words now.places.east now.places.north now.k) now.initial.row now.row now.i
