use native.Mathlib.Omega.{arith}
use Rattle.neighbours.proofs.Answers.{listed_next}
use Rattle.seam_search.proofs.mark_masks.Goals as goal

pub loop-p-preserved : goal.loop-p-preserved
loop-p-preserved c = listed_next c.loop-p.invariant (omega arith) c.mask.ensures
