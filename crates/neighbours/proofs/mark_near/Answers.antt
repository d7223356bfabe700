use native.Mathlib.Omega.{arith}
use Rattle.neighbours.proofs.Answers.{listed_next}
use Rattle.neighbours.proofs.mark_near.Goals as goal

pub loop-p-preserved : goal.loop-p-preserved
loop-p-preserved c = listed_next c.loop-p.invariant (omega arith) c.mark.ensures
