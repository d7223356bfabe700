-- The loop keeps: the words of the marks below i are packed.
use Rattle.alignments.proofs.Marking.{pack_none, pack_next, pack_all}
use Rattle.alignments.proofs.pack_row.Goals as goal

pub loop-i-init : goal.loop-i-init
loop-i-init c = search pack_none

pub loop-i-preserved : goal.loop-i-preserved
loop-i-preserved c = search pack_next

pub returns : goal.returns
returns c = search pack_all
