use Rattle.sweeps.proofs.Reading.{key_read}
use borrow.Author.Rules.{rules}
use Rattle.sweeps.proofs.key_at.Goals as goal

pub returns : goal.returns
returns c = record { value = search key_read; small = search rules }
