use Rattle.listing.specs.Lines.{edit_line, labelled}
use Rattle.listing.proofs.put_edit.Goals as goal

pub returns : goal.returns
unfolding edit_line labelled
returns c = rw c.from-answer.ensures at c.put_line.ensures
