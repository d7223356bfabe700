use Rattle.apply.proofs.apply.Goals as goal

pub add_block_at-requires : goal.add_block_at-requires
add_block_at-requires c = (c.requires.block c.in-AddBlock.is, c.requires.small)
