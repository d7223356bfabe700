use Rattle.answers.proofs.Accepting.{refused}
use Rattle.run_edits.proofs.Accepting.{move_run_ready, move_run_done}
use Rattle.run_edits.proofs.move_run.Goals as goal

pub returns-in_err-move_run_answer : goal.returns-in_err-move_run_answer
returns-in_err-move_run_answer c = refused _ _ _ _ c.from_residual.ensures c.in_err-move_run_answer.ensures

pub replace_run-requires : goal.replace_run-requires
replace_run-requires c =
    let g = move_run_ready _ _ _ _ c.in_ok-move_run_answer.ensures in
    record { fit = (g.ready.fit, g.bounded, g.below); sizes = (g.ready.sized.pairs, g.ready.sized.routes, g.ready.sized.totals) }

pub returns : goal.returns
returns c =
    move_run_done _ _ _ _ c.in_ok-move_run_answer.ensures _ c.replace_run.ensures
