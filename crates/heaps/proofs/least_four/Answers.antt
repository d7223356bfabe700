use Rattle.heaps.proofs.Sums.{four_least}
use Rattle.heaps.proofs.least_four.Goals as goal

pub returns : goal.returns
returns c = four_least _ _ _ _ _ c.min-first.ensures c.min-second.ensures c.min.ensures
