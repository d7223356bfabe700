use Rattle.answers.proofs.Answers.{passed, unnamed, in_blocks, yes_of, new_bounded, convex_of, add_block_4, add_block_6, add_block_7, add_block_8, add_block_0}
use Rattle.answers.proofs.add_block_answer.Goals as goal

pub returns-in_err-named : goal.returns-in_err-named
returns-in_err-named c = passed _ _ _ c.from_residual.ensures (unnamed _ _ _ c.in_err-named.ensures)

pub bounds-blocks-n : goal.bounds-blocks-n
bounds-blocks-n c = search (in_blocks, c.in_ok-named.ensures)

pub returns-then-blocks-n-ne0 : goal.returns-then-blocks-n-ne0
returns-then-blocks-n-ne0 c = search (add_block_4, c.in_ok-named.ensures)

pub returns-then-not-count_right : goal.returns-then-not-count_right
returns-then-not-count_right c = search (add_block_6, c.in_ok-named.ensures)

pub returns-then-not-coordinates_right : goal.returns-then-not-coordinates_right
returns-then-not-coordinates_right c = search (add_block_7, c.in_ok-named.ensures)

pub new_record-words-requires : goal.new_record-words-requires
new_record-words-requires c = search yes_of

pub is_convex-requires : goal.is_convex-requires
is_convex-requires c = search new_bounded

pub returns-then-not-is_convex : goal.returns-then-not-is_convex
returns-then-not-is_convex c =
    let a = convex_of _ _ _ c.is_convex.ensures c.new_record-words.ensures in search (add_block_8, c.in_ok-named.ensures)

pub returns : goal.returns
returns c =
    let a = convex_of _ _ _ c.is_convex.ensures c.new_record-words.ensures in search (add_block_0, c.in_ok-named.ensures)
