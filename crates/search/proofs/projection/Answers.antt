use Rattle.search.proofs.LowerBounds.{projection_is}
use Rattle.search.proofs.projection.Goals as goal

pub returns : goal.returns
returns c = search projection_is
