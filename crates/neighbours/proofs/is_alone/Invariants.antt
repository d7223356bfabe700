use Rattle.neighbours.proofs.Answers.{PartedTo}
use Rattle.neighbours.proofs.is_alone.Given as goal

abbrev pub invariant-loop-q : goal.invariant-loop-q
invariant-loop-q l = PartedTo l.blocks l.p l.q
