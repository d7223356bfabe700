use Rattle.lists.proofs.Fills.{fill_none, fill_next, fill_all}
use Rattle.lists.proofs.fill.Goals as goal

pub loop-x-init : goal.loop-x-init
loop-x-init g c = search fill_none

pub loop-x-preserved : goal.loop-x-preserved
loop-x-preserved g c = search fill_next

pub returns : goal.returns
returns g c = search fill_all
