use Rattle.records.proofs.Filled.{made_record}
use Rattle.records.proofs.new_record.Goals as goal

pub returns : goal.returns
returns c = made_record _ _ c.requires c.copy_from_slice.ensures.after
