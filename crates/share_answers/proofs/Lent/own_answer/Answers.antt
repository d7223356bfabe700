use Rattle.answers.proofs.Answers.{passed}
use Rattle.share_answers.proofs.Asking.{own_unnamed, in_runs, in_holders, own_absent, own_other, own_0}
use Rattle.share_answers.proofs.Lent.own_answer.Goals as goal
use Rattle.share_answers.proofs.Lent.own_answer.Goals.{then-self-m-eq0-via-then-self-m-eq0, then-self-m-eq0-via-else-self-m-eq0+then-from-contractor}

pub returns-in_err-named_answer : goal.returns-in_err-named_answer
returns-in_err-named_answer c =
    passed _ _ _ c.from_residual.ensures (own_unnamed _ _ _ _ _ _ c.in_err-named_answer.ensures)

pub bounds-self-m : goal.bounds-self-m
bounds-self-m c = search (in_runs, c.in_ok-named_answer.ensures)

pub bounds-self-m-else-self-m-eq0 : goal.bounds-self-m-else-self-m-eq0
bounds-self-m-else-self-m-eq0 c = search (in_holders, c.in_ok-named_answer.ensures)

pub returns-then-self-m-eq0 : goal.returns-then-self-m-eq0
returns-then-self-m-eq0 c =
    elim c.then-self-m-eq0.branch [
      | then-self-m-eq0-via-then-self-m-eq0 w ↦ own_absent _ _ _ _ _ c.in_ok-named_answer.ensures w.if-self-m-eq0.true
      | then-self-m-eq0-via-else-self-m-eq0+then-from-contractor w ↦ own_other _ _ _ _ _ c.in_ok-named_answer.ensures w.if-self-m-eq0.false _ w.from.ensures w.if-from-contractor.true
    ]

pub returns : goal.returns
returns c = search (own_0, c.in_ok-named_answer.ensures)
