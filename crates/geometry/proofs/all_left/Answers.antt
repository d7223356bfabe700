use Rattle.lists.proofs.Below.{all_none, all_next, all_failed, by_call}
use Rattle.geometry.proofs.all_left.Goals as goal

pub loop-l-init : goal.loop-l-init
loop-l-init c = all_none _

pub returns-then-not-is_left : goal.returns-then-not-is_left
returns-then-not-is_left c = search (all_failed, by_call)

pub loop-l-preserved : goal.loop-l-preserved
loop-l-preserved c = search (all_next, by_call)
