use Rattle.file_words.proofs.Corners.{stepped_by}
use Rattle.file_words.proofs.stepped.Goals as goal

pub returns : goal.returns
returns c = stepped_by _ _ _ _ _ c.ranges.step.fits c.cast_signed.ensures c.from.ensures c.wrapping_add_signed.ensures
