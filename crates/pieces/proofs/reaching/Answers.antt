use Rattle.pieces.proofs.Spots.{reach_last, reach_inner}
use Rattle.pieces.proofs.reaching.Goals as goal

pub returns-then-i-route : goal.returns-then-i-route
returns-then-i-route c = search reach_last

pub returns : goal.returns
returns c = search reach_inner
