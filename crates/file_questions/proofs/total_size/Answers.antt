use Rattle.file_questions.proofs.Asking.{summing_none, summing_next, summing_end}
use Rattle.file_questions.proofs.total_size.Goals as goal

pub loop-at-init : goal.loop-at-init
loop-at-init c = search summing_none

pub loop-at-preserved : goal.loop-at-preserved
loop-at-preserved c = search summing_next

pub returns : goal.returns
returns c = search summing_end
