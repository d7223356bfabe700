use Rattle.file_writing.proofs.Parts.{record_first, record_second, record_body, record_out, same_two}
use borrow.Author.Rules.{rules}
use Rattle.file_writing.proofs.write_record.Goals as goal

pub bounds-out-to : goal.bounds-out-to
bounds-out-to c = search record_first

pub bounds-out-to-2 : goal.bounds-out-to-2
bounds-out-to-2 c = search record_second

pub write_body-requires : goal.write_body-requires
write_body-requires c = (search rules, search rules, search record_body)

pub shape_of-out : goal.shape_of-out
shape_of-out c = search same_two

pub returns : goal.returns
returns c = search record_out
