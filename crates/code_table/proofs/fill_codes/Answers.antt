-- The loop keeps: the codes against the blocks below n are there.
use borrow.Author.Rules.{rules}
use Rattle.geometry.proofs.Searching.{part_bounded}
use Rattle.code_table.proofs.Rows.{rows_none, rows_next, rows_all, row_lent}
use Rattle.code_table.proofs.fill_codes.Goals as goal

pub loop-n-init : goal.loop-n-init
loop-n-init c = search rows_none

pub block_row-requires : goal.block_row-requires
block_row-requires c = search (part_bounded, row_lent, rules)

pub loop-n-preserved : goal.loop-n-preserved
loop-n-preserved c = search rows_next

pub returns : goal.returns
returns c = search rows_all
