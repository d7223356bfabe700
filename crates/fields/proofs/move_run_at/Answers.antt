use Rattle.fields.proofs.Fields.{moved_called}
use Rattle.fields.proofs.move_run_at.Goals as goal

pub returns : goal.returns
returns c = search moved_called
