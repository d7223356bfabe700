use Rattle.seams.proofs.Joining.{reached_meets}
use Rattle.seams.proofs.meets_block.Goals as goal

pub returns : goal.returns
returns c = rw c.is_some.ensures (reached_meets _ c.block_reach.ensures)
