use Rattle.tables.specs.Tables.{stored}
use Rattle.clear_rows.specs.inner.Sparing.{Spared, WordFor, Changed}
use Rattle.clear_rows.proofs.begin.Given as goal

abbrev pub invariant-loop-k : goal.invariant-loop-k
invariant-loop-k l = Changed (λ j x y. WordFor (Spared (stored l.blocks l.runs) 0) j y) l.initial.rows l.rows l.k
