use Rattle.share_answers.proofs.Loops.{bit_small, sum_none, sum_next, free_counted, free_is}
use native.Mathlib.Omega.{arith}
use Rattle.share_answers.proofs.Lent.free_numbers.Goals as goal

pub loop-m-init : goal.loop-m-init
loop-m-init c = (omega arith, sum_none _)

pub loop-m-preserved : goal.loop-m-preserved
loop-m-preserved c = (omega (arith, bit_small), search (sum_next, free_counted))

pub returns : goal.returns
returns c = (search free_is, omega arith)
