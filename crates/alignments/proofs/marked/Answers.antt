use Rattle.alignments.proofs.Marking.{marked_is}
use Rattle.alignments.proofs.marked.Goals as goal

pub returns : goal.returns
returns c = search marked_is
