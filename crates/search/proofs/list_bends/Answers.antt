use Rattle.search.proofs.Steps.{corners_ranked}
use Rattle.search.proofs.list_bends.Goals as goal

pub returns-clause-ranked : goal.returns-clause-ranked
returns-clause-ranked c = search corners_ranked
