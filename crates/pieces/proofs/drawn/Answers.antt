use Rattle.pieces.proofs.Pieces.{draws_nothing, draws_straight, draws_bend}
use Rattle.pieces.proofs.Spots.{whole_mark}
use Rattle.pieces.proofs.drawn.Goals as goal

pub returns-then-n-k : goal.returns-then-n-k
returns-then-n-k c = search draws_nothing

pub returns-then-k-eq0 : goal.returns-then-k-eq0
returns-then-k-eq0 c = search draws_straight

pub returns : goal.returns
returns c = search (draws_bend, whole_mark)
