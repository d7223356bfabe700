use Rattle.file_writing.proofs.Writing.{StepsOut}
use Rattle.file_writing.proofs.write_steps.Given as goal

abbrev pub invariant-loop-i : goal.invariant-loop-i
invariant-loop-i l = StepsOut l.words l.initial.out l.out l.to l.at l.i
