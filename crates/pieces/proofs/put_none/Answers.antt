use Rattle.pieces.proofs.Rows.{row_nowhere}
use Rattle.pieces.proofs.put_none.Goals as goal

pub returns : goal.returns
returns c = search row_nowhere
