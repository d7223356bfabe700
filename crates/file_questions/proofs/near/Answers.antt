use Rattle.file_questions.proofs.Steps.{near_start, near_no, near_next, near_end}
use Rattle.file_questions.proofs.near.Goals as goal

pub loop-i-init : goal.loop-i-init
loop-i-init c = near_start _

pub returns-then-not-step_near : goal.returns-then-not-step_near
returns-then-not-step_near c = search near_no

pub loop-i-preserved : goal.loop-i-preserved
loop-i-preserved c = search near_next

pub returns : goal.returns
returns c = search near_end
