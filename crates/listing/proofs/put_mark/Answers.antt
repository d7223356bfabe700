use Rattle.listing.specs.Lines.{labelled}
use Rattle.listing.proofs.put_mark.Goals as goal

pub returns : goal.returns
unfolding labelled
returns c = rw c.from.ensures at c.put_labelled.ensures
