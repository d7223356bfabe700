use Rattle.convert.proofs.Filling.{filling_none, filling_fits, filling_room, filling_next, filling_same, filling_size, filling_read, head_fits}
use borrow.Author.Rules.{rules}
use Rattle.convert.proofs.write_file.Goals as goal

pub write_head-requires : goal.write_head-requires
write_head-requires c = search head_fits

pub loop-at-init : goal.loop-at-init
loop-at-init c = search filling_none

pub write_record-to-requires : goal.write_record-to-requires
write_record-to-requires c = (search filling_fits, search rules, search filling_room)

pub loop-at-preserved : goal.loop-at-preserved
loop-at-preserved c = search filling_next

pub shape_of-out : goal.shape_of-out
shape_of-out c = search filling_same

pub returns : goal.returns
returns c = (search filling_size, search filling_read)
