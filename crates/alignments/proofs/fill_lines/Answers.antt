-- The loop keeps: the lines of the blocks below n are there.
use Rattle.alignments.proofs.Marking.{lines_none, lines_all}
use Rattle.alignments.proofs.fill_lines.Goals as goal

pub loop-n-init : goal.loop-n-init
loop-n-init c = search lines_none

pub returns : goal.returns
returns c = search lines_all
