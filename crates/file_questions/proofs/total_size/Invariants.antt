use Rattle.file_questions.proofs.Asking.{Summing}
use Prim.Native.Nat.{◌-◌}
use lib.ListN.{length}
use Rattle.file_questions.proofs.total_size.Given as goal

abbrev pub invariant-loop-at : goal.invariant-loop-at
invariant-loop-at l = Summing l.file l.target l.at l.total

abbrev pub decreases-loop-at : goal.decreases-loop-at
decreases-loop-at l = length l.file - l.at
