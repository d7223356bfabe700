use Rattle.fields.proofs.Fields.{run_called}
use Rattle.fields.proofs.add_run_at.Goals as goal

pub returns : goal.returns
returns c = search run_called
