use Rattle.alignments.specs.inner.Lined.{SidesRow}
use Rattle.alignments.proofs.mark_sides.Given as goal

abbrev pub invariant-loop-k : goal.invariant-loop-k
invariant-loop-k l = SidesRow l.words l.places.east l.places.north l.k l.row
