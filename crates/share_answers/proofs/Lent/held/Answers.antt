use Rattle.share_answers.proofs.Loops.{bit_small, sum_none, sum_next, counted, held_is}
use native.Mathlib.Omega.{arith}
use Rattle.share_answers.proofs.Lent.held.Goals as goal

pub loop-holder-init : goal.loop-holder-init
loop-holder-init c = (omega arith, sum_none _)

pub loop-holder-preserved : goal.loop-holder-preserved
loop-holder-preserved c = (omega (arith, bit_small), search (sum_next, counted))

pub returns : goal.returns
returns c = (held_is _ _ _ _ (omega arith) (omega arith) c.loop-holder.invariant.1, omega arith)
