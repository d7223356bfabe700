use Rattle.answers.proofs.Answers.{passed, unnamed, in_blocks, part_in_blocks, part_bounded, shifts_of, move_block_5, move_block_7, move_block_0}
use Rattle.answers.proofs.move_block_answer.Goals as goal

pub returns-in_err-named : goal.returns-in_err-named
returns-in_err-named c = passed _ _ _ c.from_residual.ensures (unnamed _ _ _ c.in_err-named.ensures)

pub bounds-blocks-n : goal.bounds-blocks-n
bounds-blocks-n c = search (in_blocks, c.in_ok-named.ensures)

pub returns-then-blocks-n-eq0 : goal.returns-then-blocks-n-eq0
returns-then-blocks-n-eq0 c = search (move_block_5, c.in_ok-named.ensures)

pub slice_bounds-shifts_right-end : goal.slice_bounds-shifts_right-end
slice_bounds-shifts_right-end c = search (part_in_blocks, c.in_ok-named.ensures)

pub shifts_right-requires : goal.shifts_right-requires
shifts_right-requires c = search (part_bounded, c.in_ok-named.ensures)

pub returns-then-not-shifts_right : goal.returns-then-not-shifts_right
returns-then-not-shifts_right c = search (move_block_7, shifts_of, c.in_ok-named.ensures)

pub returns : goal.returns
returns c = search (move_block_0, shifts_of, c.in_ok-named.ensures)
