use borrow.Author.Tests.{not-true, not-false}
use Rattle.records.proofs.Answers.{run_answer}
use Rattle.lists.proofs.Below.{all_none, all_next, all_failed}
use Rattle.records.proofs.runs_right.Goals as goal

pub loop-m-init : goal.loop-m-init
loop-m-init c = all_none _

pub loop-m-preserved : goal.loop-m-preserved
loop-m-preserved c = search (all_next, run_answer, not-false)

pub returns-then-not-run_right : goal.returns-then-not-run_right
returns-then-not-run_right c = search (all_failed, run_answer, not-true)
