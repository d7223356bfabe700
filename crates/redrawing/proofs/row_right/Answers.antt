use Rattle.redrawing.proofs.Rows.{row_right_none, row_right_next, row_right_yes, row_right_no}
use Rattle.redrawing.proofs.row_right.Goals as goal

pub loop-i-init : goal.loop-i-init
loop-i-init c = search row_right_none

pub returns-then-pairs-pair_index : goal.returns-then-pairs-pair_index
returns-then-pairs-pair_index c = search row_right_no

pub loop-i-preserved : goal.loop-i-preserved
loop-i-preserved c = search row_right_next

pub returns : goal.returns
returns c = search row_right_yes
