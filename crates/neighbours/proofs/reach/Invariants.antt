use Rattle.neighbours.proofs.Answers.{EndsTo}
use Rattle.neighbours.proofs.reach.Given as goal

abbrev pub invariant-loop-k : goal.invariant-loop-k
invariant-loop-k l = EndsTo l.words l.i l.end l.far l.k
