use Rattle.answers.proofs.Accepting.{refused}
use Rattle.block_edits.proofs.Accepting.{add_count, add_ready, add_done}
use Rattle.block_edits.proofs.add_block.Goals as goal

pub returns-in_err-add_block_answer : goal.returns-in_err-add_block_answer
returns-in_err-add_block_answer c = refused _ _ _ _ c.from_residual.ensures c.in_err-add_block_answer.ensures

pub new_record-words-requires : goal.new_record-words-requires
new_record-words-requires c = add_count _ _ _ c.in_ok-add_block_answer.ensures

pub replace_block-requires : goal.replace_block-requires
replace_block-requires c =
    let g = add_ready _ _ _ c.in_ok-add_block_answer.ensures in
    record { upright = (g.upright, g.right _ c.new_record-words.ensures, g.below); sizes = (g.ready.sized.pairs, g.ready.sized.routes, g.ready.sized.totals) }

pub returns : goal.returns
returns c =
    add_done _ _ _ c.in_ok-add_block_answer.ensures _ _ c.new_record-words.ensures c.replace_block.ensures
