use Rattle.answers.proofs.Answers.{passed, unnamed, in_blocks, remove_block_5, remove_block_0}
use Rattle.answers.proofs.remove_block_answer.Goals as goal

pub returns-in_err-named : goal.returns-in_err-named
returns-in_err-named c = passed _ _ _ c.from_residual.ensures (unnamed _ _ _ c.in_err-named.ensures)

pub bounds-blocks-n : goal.bounds-blocks-n
bounds-blocks-n c = search (in_blocks, c.in_ok-named.ensures)

pub returns-then-blocks-n-eq0 : goal.returns-then-blocks-n-eq0
returns-then-blocks-n-eq0 c = search (remove_block_5, c.in_ok-named.ensures)

pub returns : goal.returns
returns c = search (remove_block_0, c.in_ok-named.ensures)
