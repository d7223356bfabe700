use Rattle.std.proofs.Common.{ap, get_or, ◌∙◌}
use Rattle.file_writing.proofs.Writing.{words_out_none, words_out_next, words_out_end, high_byte}
use Rattle.file_writing.proofs.write_words.Goals as goal

pub loop-word-init : goal.loop-word-init
loop-word-init c = search words_out_none

pub loop-word-preserved : goal.loop-word-preserved
loop-word-preserved c =
    words_out_next _ _ _ _ _ _ c.loop-word.invariant _ _ c.loop-word-test.true (ap (λ xs. get_or xs 0 0) c.to_le_bytes.ensures)
    (ap (λ xs. get_or xs 1 0) c.to_le_bytes.ensures ∙ high_byte _ (c.type_inv.words c.loop-word.word-index).fits)

pub returns : goal.returns
returns c = search words_out_end
