use Rattle.file_records.specs.Records.{step_byte}
use Rattle.file_writing.proofs.step_byte.Goals as goal

pub returns : goal.returns
unfolding step_byte
returns c = rw (c.from.ensures, c.from-2.ensures)
