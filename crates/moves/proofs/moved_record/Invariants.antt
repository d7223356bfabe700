use Rattle.moves.proofs.Shifting.{MovedTo}
use Rattle.moves.proofs.moved_record.Given as goal

abbrev pub invariant-loop-k : goal.invariant-loop-k
invariant-loop-k l = MovedTo l.east l.north l.words l.made l.k
