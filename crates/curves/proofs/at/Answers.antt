use Rattle.curves.proofs.Curves.{bend_spot}
use Rattle.curves.proofs.at.Goals as goal

pub returns : goal.returns
returns c = search bend_spot
