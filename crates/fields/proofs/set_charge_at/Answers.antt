use Rattle.fields.proofs.Fields.{charge_called}
use Rattle.fields.proofs.set_charge_at.Goals as goal

pub returns : goal.returns
returns c = search charge_called
