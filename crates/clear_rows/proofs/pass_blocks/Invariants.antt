use Rattle.tables.specs.Tables.{stored}
use Rattle.clear_rows.specs.inner.Sparing.{Spared, AllSay}
use Rattle.clear_rows.proofs.pass_blocks.Given as goal

abbrev pub invariant-loop-n : goal.invariant-loop-n
invariant-loop-n l = AllSay (Spared (stored l.blocks l.runs) l.n) l.rows
