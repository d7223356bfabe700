use Rattle.file_writing.proofs.Parts.{corners_out_full, room_full, corners_out_none, two_count, room_two, room_steps, corners_out_short}
use borrow.Author.Rules.{rules}
use Rattle.file_writing.proofs.write_corners.Goals as goal

pub write_words-requires : goal.write_words-requires
write_words-requires c = search room_full

pub returns-then-target-eq1 : goal.returns-then-target-eq1
returns-then-target-eq1 c = search corners_out_full

pub returns-then-words-lt2 : goal.returns-then-words-lt2
returns-then-words-lt2 c = search corners_out_none

pub slice_bounds-write_words-end : goal.slice_bounds-write_words-end
slice_bounds-write_words-end c = search two_count

pub write_words-next-requires : goal.write_words-next-requires
write_words-next-requires c = search room_two

pub write_steps-requires : goal.write_steps-requires
write_steps-requires c = (search rules, search room_steps)

pub returns : goal.returns
returns c = search corners_out_short
