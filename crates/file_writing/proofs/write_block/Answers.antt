use Rattle.std.proofs.Common.{◌∙◌}
use Rattle.file_writing.proofs.Parts.{block_first, block_room, block_out, corner_part, same_set}
use Rattle.file_writing.proofs.write_block.Goals as goal

pub bounds-out-to : goal.bounds-out-to
bounds-out-to c = search block_first

pub write_corners-requires : goal.write_corners-requires
write_corners-requires c =
    block_room _ _ _ _ _ c.byte_at-count.ensures (corner_part _ _ _ _ (c.from.ensures ∙ c.byte_at-count.ensures) c.corner_words-room.ensures) _ _ c.requires.2

pub shape_of-out : goal.shape_of-out
shape_of-out c = search same_set

pub returns : goal.returns
returns c =
    block_out _ _ _ _ _ c.byte_at-count.ensures (corner_part _ _ _ _ (c.from.ensures ∙ c.byte_at-count.ensures) c.corner_words-room.ensures) _ _ _ _ c.requires.2 c.write_corners.ensures
