use Rattle.pieces.proofs.Spots.{leave_first, leave_later}
use Rattle.pieces.proofs.leaving.Goals as goal

pub returns-then-i-eq0 : goal.returns-then-i-eq0
returns-then-i-eq0 c = search leave_first

pub returns : goal.returns
returns c = search leave_later
