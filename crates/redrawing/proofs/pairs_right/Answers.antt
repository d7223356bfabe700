use Rattle.redrawing.proofs.Rows.{rows_right_none, rows_right_next, rows_right_yes, rows_right_no}
use Rattle.redrawing.proofs.pairs_right.Goals as goal

pub loop-j-init : goal.loop-j-init
loop-j-init c = search rows_right_none

pub returns-then-not-row_right : goal.returns-then-not-row_right
returns-then-not-row_right c = search rows_right_no

pub loop-j-preserved : goal.loop-j-preserved
loop-j-preserved c = search rows_right_next

pub returns : goal.returns
returns c = search rows_right_yes
