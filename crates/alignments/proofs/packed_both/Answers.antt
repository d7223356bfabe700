use Rattle.alignments.proofs.Marking.{room, both_packed}
use Rattle.alignments.proofs.packed_both.Goals as goal

pub packed-requires-2 : goal.packed-requires-2
packed-requires-2 c = search room

pub returns : goal.returns
returns c = search both_packed
