use native.Mathlib.Omega.{arith}
use Rattle.neighbours.proofs.Answers.{listed_next, bound_part}
use Rattle.neighbours.proofs.mark_bounds.Goals as goal

pub loop-p-preserved : goal.loop-p-preserved
loop-p-preserved c =
    listed_next c.loop-p.invariant (omega arith) (bound_part c.args.blocks.now c.loop-p.p _ _ _ c.bound.ensures)
