use Rattle.bits.proofs.Counting.{without_is}
use Rattle.bits.proofs.without_lowest.Goals as goal

pub returns : goal.returns
returns c = search without_is
