use Rattle.redrawing.proofs.Rows.{renew_row_none, renew_row_next, renew_row_all}
use Rattle.redrawing.proofs.renew_row.Goals as goal

pub loop-i-init : goal.loop-i-init
loop-i-init c = search renew_row_none

pub loop-i-preserved : goal.loop-i-preserved
loop-i-preserved c = search renew_row_next

pub returns : goal.returns
returns c = search renew_row_all
