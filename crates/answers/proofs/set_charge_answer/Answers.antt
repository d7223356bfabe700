use Rattle.answers.proofs.Answers.{passed, charge_unfit, charge_13, charge_0}
use Rattle.answers.proofs.set_charge_answer.Goals as goal

pub returns-in_err-fitness : goal.returns-in_err-fitness
returns-in_err-fitness c = passed _ _ _ c.from_residual.ensures (charge_unfit _ _ _ c.in_err-fitness.ensures)

pub returns-then-not-figure_right : goal.returns-then-not-figure_right
returns-then-not-figure_right c =
    let a = rw c.from.ensures at c.figure_right.ensures in search (charge_13, c.in_ok-fitness.ensures)

pub returns : goal.returns
returns c =
    let a = rw c.from.ensures at c.figure_right.ensures in search (charge_0, c.in_ok-fitness.ensures)
