use Rattle.answers.proofs.Answers.{passed, not_none}
use Rattle.share_edits.proofs.Granting.{move_refused, move_done}
use Rattle.share_edits.proofs.move_run_for.Goals as goal

pub returns-in_err-own_answer_over : goal.returns-in_err-own_answer_over
returns-in_err-own_answer_over c =
    let h = c.from_residual.ensures in
    move_refused _ _ _ _ _ _ (passed _ _ _ h c.in_err-own_answer_over.ensures) _ _ (not_none _ _ h)

pub returns : goal.returns
returns c = search (move_done, c.in_ok-own_answer_over.ensures)
