use Rattle.answers.proofs.Accepting.{refused}
use Rattle.run_edits.proofs.Accepting.{remove_run_ready, remove_run_done}
use Rattle.run_edits.proofs.remove_run.Goals as goal

pub returns-in_err-remove_run_answer : goal.returns-in_err-remove_run_answer
returns-in_err-remove_run_answer c = refused _ _ _ _ c.from_residual.ensures c.in_err-remove_run_answer.ensures

pub replace_run-requires : goal.replace_run-requires
replace_run-requires c =
    let g = remove_run_ready _ _ c.in_ok-remove_run_answer.ensures in
    record { fit = (g.ready.fit, g.bounded, g.below); sizes = (g.ready.sized.pairs, g.ready.sized.routes, g.ready.sized.totals) }

pub returns : goal.returns
returns c =
    remove_run_done _ _ c.in_ok-remove_run_answer.ensures _ c.replace_run.ensures
