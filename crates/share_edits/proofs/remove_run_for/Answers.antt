use Rattle.answers.proofs.Answers.{passed, not_none}
use Rattle.share_edits.proofs.Granting.{remove_refused, own_in, remove_taken, remove_done}
use Rattle.share_edits.proofs.remove_run_for.Goals as goal

pub returns-in_err-own_answer_over : goal.returns-in_err-own_answer_over
returns-in_err-own_answer_over c =
    let h = c.from_residual.ensures in
    remove_refused _ _ _ _ _ _ (passed _ _ _ h c.in_err-own_answer_over.ensures) (not_none _ _ h)

pub returns-in_err-remove_run : goal.returns-in_err-remove_run
returns-in_err-remove_run c =
    absurd (remove_taken _ _ _ _ _ c.in_ok-own_answer_over.ensures _ _ c.in_err-remove_run.ensures)

pub bounds-holders-number : goal.bounds-holders-number
bounds-holders-number c = own_in _ _ _ _ _ c.in_ok-own_answer_over.ensures

pub returns : goal.returns
returns c = remove_done _ _ _ _ _ c.in_ok-own_answer_over.ensures _ c.in_ok-remove_run.ensures
