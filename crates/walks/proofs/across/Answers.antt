use Rattle.walks.proofs.Reading.{across_read}
use Rattle.walks.proofs.across.Goals as goal

pub returns-clause-value : goal.returns-clause-value
returns-clause-value c = search across_read
