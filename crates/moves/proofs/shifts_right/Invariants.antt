use Rattle.moves.proofs.Shifting.{LandTo}
use Rattle.moves.proofs.shifts_right.Given as goal

abbrev pub invariant-loop-k : goal.invariant-loop-k
invariant-loop-k l = LandTo l.east l.north l.words l.k
