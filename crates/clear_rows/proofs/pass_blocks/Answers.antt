-- The loop keeps: the rows say which corners no block before n hides.
use borrow.Author.Rules.{rules}
use Rattle.clear_rows.proofs.Sparing.{part_right, spared_next, spared_all}
use Rattle.clear_rows.proofs.pass_blocks.Goals as goal

pub pass_block-requires : goal.pass_block-requires
pass_block-requires c = search (part_right, rules)

pub loop-n-preserved : goal.loop-n-preserved
loop-n-preserved c = search spared_next

pub returns : goal.returns
returns c = search spared_all
