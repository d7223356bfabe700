use Rattle.clear_rows.specs.inner.Sparing.{Sifts, Changed, HidBy}
use Rattle.clear_rows.proofs.pass_coded.Given as goal

abbrev pub invariant-loop-k : goal.invariant-loop-k
invariant-loop-k l = Changed (Sifts (HidBy l.words l.places.east l.places.north)) l.initial.rows l.rows l.k
