use Rattle.file_questions.proofs.Asking.{Walked}
use Rattle.file_questions.specs.inner.Questions.{number_asked}
use Prim.Native.Nat.{◌-◌}
use lib.ListN.{length}
use Rattle.file_questions.proofs.every_one.Given as goal

abbrev pub invariant-loop-at : goal.invariant-loop-at
invariant-loop-at l = Walked l.file (number_asked l.question) l.at

abbrev pub decreases-loop-at : goal.decreases-loop-at
decreases-loop-at l = length l.file - l.at
