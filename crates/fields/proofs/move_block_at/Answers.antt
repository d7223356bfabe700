use Rattle.fields.proofs.Fields.{shift_called}
use mathlib.Core.Path.{ap, ◌∙◌}
use Rattle.file_words.specs.Words.{displacement}
use Rattle.fields.proofs.move_block_at.Goals as goal

pub returns : goal.returns
returns c =
    shift_called _ _ _ _ _ _ _ _ c.displacement.type_inv c.displacement-2.type_inv
    (c.displacement.ensures ∙ ap displacement c.field-east.ensures)
    (c.displacement-2.ensures ∙ ap displacement c.field-north.ensures)
    c.move_block.ensures
