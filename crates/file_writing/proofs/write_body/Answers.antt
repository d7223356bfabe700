use Rattle.file_writing.proofs.Parts.{block_file, block_buffer, body_out_block, plain_file, plain_buffer, body_out_plain, four_room}
use borrow.Author.Rules.{rules}
use Rattle.file_writing.proofs.write_body.Goals as goal

pub write_block-requires : goal.write_block-requires
write_block-requires c = (search block_file, search rules, search block_buffer)

pub returns-then-kind-eq1 : goal.returns-then-kind-eq1
returns-then-kind-eq1 c = search body_out_block

pub fill_fields-requires : goal.fill_fields-requires
fill_fields-requires c =
    let s = four_room c.plain_words.result c.plain_words.ensures.1 in
    rw s (plain_file _ _ _ c.byte_at-kind.ensures c.if-kind-eq1.false _ c.plain_words.ensures.0 c.requires.0)

pub write_words-requires : goal.write_words-requires
write_words-requires c =
    let s = four_room c.plain_words.result c.plain_words.ensures.1 in
    let w = rw s at c.fill_fields.ensures in
    plain_buffer _ _ _ c.byte_at-kind.ensures c.if-kind-eq1.false _ c.plain_words.ensures.0 _ w _ _ _ c.requires.2

pub returns : goal.returns
returns c =
    let s = four_room c.plain_words.result c.plain_words.ensures.1 in
    let w = rw s at c.fill_fields.ensures in
    body_out_plain _ _ _ c.byte_at-kind.ensures c.if-kind-eq1.false _ c.plain_words.ensures.0 _ w _ _ _ _ _ c.write_words.ensures
