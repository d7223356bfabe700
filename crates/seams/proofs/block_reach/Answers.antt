use Rattle.geometry.proofs.Searching.{part_is}
use Rattle.seams.proofs.block_reach.Goals as goal

pub returns : goal.returns
returns c = rw (part_is c.args.blocks.now c.args.n) at c.reach.ensures
