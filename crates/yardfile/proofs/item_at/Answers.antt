use Rattle.yardfile.proofs.Cases.{item_made}
use Rattle.yardfile.proofs.item_at.Goals as goal

pub returns : goal.returns
returns c = search item_made
