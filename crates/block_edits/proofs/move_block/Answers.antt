use Rattle.answers.proofs.Accepting.{refused, plain_move}
use Rattle.block_edits.proofs.Accepting.{move_in, move_asks, move_ready, move_upright, move_done}
use Rattle.block_edits.proofs.move_block.Goals as goal

pub returns-in_err-move_block_answer : goal.returns-in_err-move_block_answer
returns-in_err-move_block_answer c =
    plain_move _ _ _ _ _ _ c.ranges.east c.ranges.north (refused _ _ _ _ c.from_residual.ensures c.in_err-move_block_answer.ensures)

pub slice_bounds-moved_record-end : goal.slice_bounds-moved_record-end
slice_bounds-moved_record-end c = move_in _ _ _ _ c.in_ok-move_block_answer.ensures

pub moved_record-words-requires : goal.moved_record-words-requires
moved_record-words-requires c =
    move_asks _ _ _ _ c.in_ok-move_block_answer.ensures

pub replace_block-requires : goal.replace_block-requires
replace_block-requires c =
    let g = move_ready _ _ _ _ c.in_ok-move_block_answer.ensures in
    record { upright = (g.upright, move_upright _ _ _ _ c.in_ok-move_block_answer.ensures _ c.moved_record-words.ensures, g.below); sizes = (g.ready.sized.pairs, g.ready.sized.routes, g.ready.sized.totals) }

pub returns : goal.returns
returns c =
    plain_move _ _ _ _ _ _ c.ranges.east c.ranges.north
    (move_done _ _ _ _ c.in_ok-move_block_answer.ensures _ _ c.moved_record-words.ensures c.replace_block.ensures)
