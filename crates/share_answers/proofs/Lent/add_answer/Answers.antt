use Rattle.answers.proofs.Answers.{passed}
use Rattle.share_answers.proofs.Asking.{add_unnamed, contractor_below, in_runs, add_4, add_19, add_20, add_0}
use Rattle.share_answers.proofs.Lent.add_answer.Goals as goal

pub returns-in_err-named_answer : goal.returns-in_err-named_answer
returns-in_err-named_answer c =
    passed _ _ _ c.from_residual.ensures (add_unnamed _ _ _ _ _ _ c.in_err-named_answer.ensures)

pub bounds-self-number : goal.bounds-self-number
bounds-self-number c = search (in_runs, c.in_ok-named_answer.ensures)

pub returns-then-self-number-ne0 : goal.returns-then-self-number-ne0
returns-then-self-number-ne0 c = search (add_4, c.in_ok-named_answer.ensures)

pub below_ceiling-requires : goal.below_ceiling-requires
below_ceiling-requires c = search (contractor_below, c.in_ok-named_answer.ensures)

pub returns-then-not-below_ceiling : goal.returns-then-not-below_ceiling
returns-then-not-below_ceiling c = search (add_19, c.in_ok-named_answer.ensures)

pub spares_others-requires : goal.spares_others-requires
spares_others-requires c = search (contractor_below, c.in_ok-named_answer.ensures)

pub returns-then-not-spares_others : goal.returns-then-not-spares_others
returns-then-not-spares_others c = search (add_20, c.in_ok-named_answer.ensures)

pub returns : goal.returns
returns c = search (add_0, c.in_ok-named_answer.ensures)
