use Rattle.totals.proofs.Totals.{compared}
use Rattle.totals.proofs.totals_right.Goals as goal

pub returns : goal.returns
returns c = search compared
