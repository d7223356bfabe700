use Rattle.clear_rows.specs.inner.Sparing.{HidBy}
use Rattle.clear_rows.proofs.Sifting.{Sifting}
use Rattle.clear_rows.proofs.spared_word.Given as goal

abbrev pub invariant-loop-rest : goal.invariant-loop-rest
invariant-loop-rest l = Sifting (HidBy l.words l.places.east l.places.north l.v) l.q l.w l.r l.rest

abbrev pub decreases-loop-rest : goal.decreases-loop-rest
decreases-loop-rest l = l.rest
