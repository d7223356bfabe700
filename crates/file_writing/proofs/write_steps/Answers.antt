use Rattle.file_writing.proofs.Writing.{steps_out_none, steps_out_next, steps_out_end}
use Rattle.file_writing.proofs.write_steps.Goals as goal

pub loop-i-init : goal.loop-i-init
loop-i-init c = search steps_out_none

pub loop-i-preserved : goal.loop-i-preserved
loop-i-preserved c = search steps_out_next

pub returns : goal.returns
returns c = search steps_out_end
