use Rattle.answers.proofs.Answers.{passed}
use Rattle.share_edits.proofs.Asking.{unfit, fit, runs_121, holders_24, shares_4, ceilings_4}
use Rattle.share_edits.proofs.own_answer_over.Goals as goal

pub returns-in_err-fitness_for : goal.returns-in_err-fitness_for
returns-in_err-fitness_for c = passed _ _ _ c.from_residual.ensures (unfit _ _ _ _ _ c.in_err-fitness_for.ensures)

pub invariant_of-lent : goal.invariant_of-lent
invariant_of-lent c =
    let f = c.in_ok-fitness_for.ensures in
    record { long_runs = runs_121 _ _ _ _ _ _ _ _ f; long_holders = holders_24 _ _ _ _ _ _ _ _ f; long_shares = shares_4 _ _ _ _ _ _ _ _ f; long_ceilings = ceilings_4 _ _ _ _ _ _ _ _ f }

pub returns : goal.returns
returns c = search (fit, c.in_ok-fitness_for.ensures)
