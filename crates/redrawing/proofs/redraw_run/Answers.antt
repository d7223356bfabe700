use Rattle.redrawing.proofs.Rows.{run_renewed}
use Rattle.redrawing.proofs.redraw_run.Goals as goal

pub returns : goal.returns
returns c =
    run_renewed _ _ _ _ _ _ _ c.requires.2 c.renew_row.ensures c.renew_row-2.ensures c.renew_column.ensures c.renew_column-2.ensures
