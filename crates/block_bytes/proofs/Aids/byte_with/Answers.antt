use Rattle.block_bytes.proofs.Edited.{fresh_high}
use Rattle.block_bytes.proofs.Aids.byte_with.Goals as goal

pub returns-in_default : goal.returns-in_default
returns-in_default c = fresh_high _ _ _ (rw c.in_default.is at c.requires.3)
