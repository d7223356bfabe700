use Rattle.seams.proofs.Joining.{from_joined, from_shut}
use Rattle.seams.proofs.shared_from.Goals as goal

pub returns-in-Some : goal.returns-in-Some
returns-in-Some c = from_joined _ _ _ c.in-Some.ensures c.joined.ensures

pub returns-in-None : goal.returns-in-None
returns-in-None c = from_shut _ _ _ c.in-None.ensures
