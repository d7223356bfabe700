use Rattle.clear_rows.specs.inner.Sparing.{InTwo}
use Rattle.clear_rows.proofs.Sifting.{Sifting}
use Rattle.clear_rows.proofs.unshared_word.Given as goal

abbrev pub invariant-loop-rest : goal.invariant-loop-rest
invariant-loop-rest l = Sifting (InTwo l.blocks l.places.east l.places.north l.v) l.q l.w l.r l.rest

abbrev pub decreases-loop-rest : goal.decreases-loop-rest
decreases-loop-rest l = l.rest
