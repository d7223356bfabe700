use Rattle.answers.proofs.Accepting.{refused}
use Rattle.run_edits.proofs.Accepting.{add_run_ready, add_run_done}
use Rattle.run_edits.proofs.add_run.Goals as goal

pub returns-in_err-add_run_answer : goal.returns-in_err-add_run_answer
returns-in_err-add_run_answer c = refused _ _ _ _ c.from_residual.ensures c.in_err-add_run_answer.ensures

pub replace_run-requires : goal.replace_run-requires
replace_run-requires c =
    let g = add_run_ready _ _ _ _ c.in_ok-add_run_answer.ensures in
    record { fit = (g.ready.fit, g.bounded, g.below); sizes = (g.ready.sized.pairs, g.ready.sized.routes, g.ready.sized.totals) }

pub returns : goal.returns
returns c =
    add_run_done _ _ _ _ c.in_ok-add_run_answer.ensures _ c.replace_run.ensures
