use Rattle.alignments.proofs.Marking.{SidesUpto}
use Rattle.alignments.proofs.mark_side.Given as goal

abbrev pub invariant-loop-i : goal.invariant-loop-i
invariant-loop-i now = SidesUpto now.words now.places.east now.places.north now.k now.initial.row now.row now.i
