use native.Mathlib.Omega.{arith}
use Rattle.answers.proofs.Answers.{passed, not_none}
use Rattle.share_edits.proofs.Granting.{add_refused, add_contractor, add_in, add_turned, add_done}
use Rattle.share_edits.proofs.add_run_for.Goals as goal

pub returns-in_err-add_answer_over : goal.returns-in_err-add_answer_over
returns-in_err-add_answer_over c =
    let h = c.from_residual.ensures in
    add_refused _ _ _ _ _ _ (passed _ _ _ h c.in_err-add_answer_over.ensures) _ _ (not_none _ _ h)

pub returns-in_err-add_run : goal.returns-in_err-add_run
returns-in_err-add_run c =
    add_turned _ _ _ _ _ c.in_ok-add_answer_over.ensures _ _ _ _ _ c.from_residual-in_err-add_run.ensures c.in_err-add_run.ensures

pub overflow_cast-holders : goal.overflow_cast-holders
overflow_cast-holders c = omega (arith, add_contractor _ _ _ _ _ c.in_ok-add_answer_over.ensures)

pub bounds-holders-number : goal.bounds-holders-number
bounds-holders-number c = add_in _ _ _ _ _ c.in_ok-add_answer_over.ensures

pub returns : goal.returns
returns c = add_done _ _ _ _ _ c.in_ok-add_answer_over.ensures _ _ _ c.in_ok-add_run.ensures
