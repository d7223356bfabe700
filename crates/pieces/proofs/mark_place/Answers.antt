use Rattle.pieces.proofs.Spots.{mark_is}
use Rattle.pieces.proofs.mark_place.Goals as goal

pub returns : goal.returns
returns c = search mark_is
