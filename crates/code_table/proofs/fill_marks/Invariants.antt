use Rattle.tables.specs.Tables.{stored, place_of}
use Rattle.code_table.proofs.Rows.{Upto}
use Rattle.code_table.proofs.fill_marks.Given as goal

abbrev pub invariant-loop-i : goal.invariant-loop-i
invariant-loop-i l = Upto (λ j. (place_of (stored l.blocks l.runs) j).east) l.initial.places.east l.places.east l.i × Upto (λ j. (place_of (stored l.blocks l.runs) j).north) l.initial.places.north l.places.north l.i
