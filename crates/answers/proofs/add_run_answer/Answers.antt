use Rattle.answers.proofs.Answers.{passed, unnamed, in_runs, add_run_4, add_run_7, add_run_0}
use Rattle.answers.proofs.add_run_answer.Goals as goal

pub returns-in_err-named : goal.returns-in_err-named
returns-in_err-named c = passed _ _ _ c.from_residual.ensures (unnamed _ _ _ c.in_err-named.ensures)

pub bounds-runs-m : goal.bounds-runs-m
bounds-runs-m c = search (in_runs, c.in_ok-named.ensures)

pub returns-then-runs-m-ne0 : goal.returns-then-runs-m-ne0
returns-then-runs-m-ne0 c = search (add_run_4, c.in_ok-named.ensures)

pub returns-then-not-ends_right : goal.returns-then-not-ends_right
returns-then-not-ends_right c = search (add_run_7, c.in_ok-named.ensures)

pub returns : goal.returns
returns c = search (add_run_0, c.in_ok-named.ensures)
