use native.Mathlib.Omega.{arith}
use Rattle.share_answers.proofs.Loops.{sum_none, sum_next, left_counted, unfilled_is}
use Rattle.share_answers.proofs.Lent.unfilled.Goals as goal

pub loop-c-init : goal.loop-c-init
loop-c-init c = (omega arith, sum_none _)

pub loop-c-preserved : goal.loop-c-preserved
loop-c-preserved c = (omega arith, search (sum_next, left_counted))

pub returns : goal.returns
returns c = (search unfilled_is, omega arith)
