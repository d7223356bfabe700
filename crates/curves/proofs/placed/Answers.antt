use Rattle.curves.proofs.Curves.{whole_spot}
use Rattle.curves.proofs.placed.Goals as goal

pub returns : goal.returns
returns c = search whole_spot
