use Rattle.answers.proofs.Accepting.{refused}
use Rattle.block_edits.proofs.Accepting.{remove_ready, remove_done}
use Rattle.block_edits.proofs.remove_block.Goals as goal

pub returns-in_err-remove_block_answer : goal.returns-in_err-remove_block_answer
returns-in_err-remove_block_answer c = refused _ _ _ _ c.from_residual.ensures c.in_err-remove_block_answer.ensures

pub erase_block-requires : goal.erase_block-requires
erase_block-requires c =
    let g = remove_ready _ _ c.in_ok-remove_block_answer.ensures in
    record { upright = (g.upright, g.below); sizes = (g.ready.sized.pairs, g.ready.sized.routes, g.ready.sized.totals) }

pub returns : goal.returns
returns c =
    remove_done _ _ c.in_ok-remove_block_answer.ensures _ c.erase_block.ensures
