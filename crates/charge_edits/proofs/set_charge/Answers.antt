use Rattle.answers.proofs.Accepting.{refused}
use Rattle.charge_edits.proofs.Accepting.{charge_ready, charge_done}
use Rattle.charge_edits.proofs.set_charge.Goals as goal

pub returns-in_err-set_charge_answer : goal.returns-in_err-set_charge_answer
returns-in_err-set_charge_answer c = refused _ _ _ _ c.from_residual.ensures c.in_err-set_charge_answer.ensures

pub replace_figure-requires : goal.replace_figure-requires
replace_figure-requires c =
    let g = charge_ready _ _ c.in_ok-set_charge_answer.ensures in
    record { fit = (g.0.fit, g.1); sizes = (g.0.sized.pairs, g.0.sized.routes, g.0.sized.totals) }

pub returns : goal.returns
returns c =
    charge_done _ _ c.in_ok-set_charge_answer.ensures _ c.replace_figure.ensures
