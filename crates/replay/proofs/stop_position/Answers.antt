use Rattle.replay.proofs.Taken.{stop_none, stop_there}
use Rattle.replay.proofs.stop_position.Goals as goal

pub returns-in-NoYardFile : goal.returns-in-NoYardFile
returns-in-NoYardFile c = stop_none _ _ c.in-NoYardFile.is

pub returns-in_default : goal.returns-in_default
returns-in_default c = stop_there _ _ c.in_default.not-NoYardFile
