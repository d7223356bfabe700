use Rattle.share_answers.proofs.Loops.{sum_none, sum_next, sum_done}
use native.Mathlib.Omega.{arith}
use Rattle.share_answers.proofs.Lent.promised.Goals as goal

pub loop-share-init : goal.loop-share-init
loop-share-init c = (omega arith, sum_none _)

pub loop-share-preserved : goal.loop-share-preserved
loop-share-preserved c = (omega arith, search sum_next)

pub returns : goal.returns
returns c = sum_done _ _ _ _ (omega arith) (omega arith) c.loop-share.invariant.1
