use Rattle.fields.proofs.Fields.{block_called}
use Rattle.fields.proofs.add_block_at.Goals as goal

pub returns : goal.returns
returns c = block_called _ _ _ _ _ _ c.corners_in-words.ensures c.add_block.ensures
