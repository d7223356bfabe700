use Rattle.file_questions.proofs.Steps.{NearTo}
use Rattle.file_questions.proofs.near.Given as goal

abbrev pub invariant-loop-i : goal.invariant-loop-i
invariant-loop-i l = NearTo l.words l.i
