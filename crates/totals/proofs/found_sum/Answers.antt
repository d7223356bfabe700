use Rattle.totals.proofs.Summing.{sum_none, sum_next, sum_fits}
use Rattle.totals.proofs.found_sum.Goals as goal

pub loop-m-init : goal.loop-m-init
loop-m-init c = search sum_none

pub overflow_add-sum : goal.overflow_add-sum
overflow_add-sum c = record { fits = search sum_fits }

pub loop-m-preserved : goal.loop-m-preserved
loop-m-preserved c = search sum_next
