use Rattle.file_words.proofs.Sizes.{displaced}
use Rattle.file_words.proofs.displacement.Goals as goal

pub returns : goal.returns
returns c = displaced _ _ c.ranges.v.fits c.cast_signed.ensures
