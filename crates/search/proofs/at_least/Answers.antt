use Rattle.search.proofs.LowerBounds.{at_least_is, at_least_small}
use Rattle.search.proofs.at_least.Goals as goal

pub returns : goal.returns
returns c = record { value = search at_least_is; small = search at_least_small }
