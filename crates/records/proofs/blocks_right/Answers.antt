use borrow.Author.Tests.{not-true, not-false}
use Rattle.records.proofs.Answers.{block_answer}
use Rattle.lists.proofs.Below.{all_none, all_next, all_failed}
use Rattle.records.proofs.blocks_right.Goals as goal

pub loop-n-init : goal.loop-n-init
loop-n-init c = all_none _

pub loop-n-preserved : goal.loop-n-preserved
loop-n-preserved c = search (all_next, block_answer, not-false)

pub returns-then-not-block_right : goal.returns-then-not-block_right
returns-then-not-block_right c = search (all_failed, block_answer, not-true)
