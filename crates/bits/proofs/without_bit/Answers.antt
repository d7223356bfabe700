use Rattle.bits.proofs.Counting.{without_bit_is}
use Rattle.bits.proofs.without_bit.Goals as goal

pub returns : goal.returns
returns c = search without_bit_is
