use Rattle.lists.proofs.Below.{all_none, all_next, all_done, all_failed, by_call}
use Rattle.geometry.proofs.Convexities.{convex_is}
use Rattle.geometry.proofs.is_convex.Goals as goal

pub loop-k-init : goal.loop-k-init
loop-k-init c = all_none _

pub returns-then-not-all_left : goal.returns-then-not-all_left
returns-then-not-all_left c = rw convex_is (search (all_failed, by_call))

pub loop-k-preserved : goal.loop-k-preserved
loop-k-preserved c = search (all_next, by_call)

pub returns : goal.returns
returns c = rw convex_is (search all_done)
