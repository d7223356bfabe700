use Rattle.clear_rows.specs.inner.Sparing.{Sifts, Changed, InTwo}
use Rattle.clear_rows.proofs.pass_seams.Given as goal

abbrev pub invariant-loop-k : goal.invariant-loop-k
invariant-loop-k l = Changed (Sifts (InTwo l.blocks l.places.east l.places.north)) l.initial.rows l.rows l.k
