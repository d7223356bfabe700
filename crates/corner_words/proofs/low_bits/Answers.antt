use Rattle.corner_words.proofs.Remainders.{shifted_some, low_bits_is}
use Rattle.corner_words.proofs.low_bits.Goals as goal

pub nonzero_rem-result : goal.nonzero_rem-result
nonzero_rem-result c = shifted_some _ c.requires

pub returns : goal.returns
returns c = low_bits_is _ _ c.requires
