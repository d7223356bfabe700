use Rattle.std.proofs.Common.{◌*◌, ◌∙◌, arith}
use Rattle.file_words.proofs.Corners.{room_count, corners_back}
use Rattle.file_words.proofs.fill_room.Goals as goal

pub fill_corners-requires : goal.fill_corners-requires
fill_corners-requires c =
    (c.requires.0, c.requires.1, room_count _ _ _ c.told-room (omega (arith, c.from-count.ensures, c.byte_at.type_inv)) (c.from-count.ensures ∙ c.byte_at.ensures))

pub returns : goal.returns
returns c = corners_back _ _ (2 * c.from-count.result) c.args.room.now _ c.fill_corners.ensures
