use Rattle.lines.proofs.Collecting.{Collecting}
use Rattle.tables.specs.Tables.{stored}
use Rattle.lines.proofs.lines_of.Given as goal

abbrev pub invariant-loop-i : goal.invariant-loop-i
invariant-loop-i l = Collecting (stored l.blocks l.runs) l.east l.list l.n l.i
