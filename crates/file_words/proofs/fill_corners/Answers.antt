use Rattle.std.proofs.Common.{◌∙◌, refl, arith}
use Rattle.file_words.proofs.Corners.{corners_full, corners_none, corners_short, room_full, room_first, room_short, room_some, first_two, first_size, room_none, two}
use Rattle.file_words.specs.Words.{byte}
use Rattle.file_words.proofs.fill_corners.Goals as goal

pub fill_fields-requires : goal.fill_fields-requires
fill_fields-requires c =
    let s = c.requires.2 in
    rw s (room_full _ _ _ _ c.byte_at.ensures refl c.if-byte_at-eq1.true c.requires.0)

pub fill_fields-requires-then-not-is_empty : goal.fill_fields-requires-then-not-is_empty
fill_fields-requires-then-not-is_empty c =
    let s = c.requires.2 in
    let n = room_some (byte c.args.file.now c.args.at) _ _ s c.is_empty.ensures c.if-not-is_empty.true in
    rw (two (byte c.args.file.now c.args.at) _ s n) (room_first _ _ _ _ c.byte_at.ensures refl c.if-byte_at-eq1.false n c.requires.0)

pub put_steps-requires : goal.put_steps-requires
put_steps-requires c =
    let s = c.requires.2 in
    let n = room_some (byte c.args.file.now c.args.at) _ _ s c.is_empty.ensures c.if-not-is_empty.true in
    let z = first_size _ _ (byte c.args.file.now c.args.at) _ _ s n c.fill_fields-then-not-is_empty.ensures in
    rw z (omega (arith, n), room_short _ _ _ _ c.byte_at.ensures refl c.if-byte_at-eq1.false n c.requires.0)

pub returns-then-byte_at-eq1 : goal.returns-then-byte_at-eq1
returns-then-byte_at-eq1 c = c.fill_fields.ensures ∙ rw c.requires.2 (corners_full _ _ _ _ c.byte_at.ensures refl c.if-byte_at-eq1.true)

pub returns-then-not-is_empty : goal.returns-then-not-is_empty
returns-then-not-is_empty c =
    let s = c.requires.2 in
    let n = room_some (byte c.args.file.now c.args.at) _ _ s c.is_empty.ensures c.if-not-is_empty.true in
    let e = c.fill_fields-then-not-is_empty.ensures in
    let z = first_size _ _ (byte c.args.file.now c.args.at) _ _ s n e in
    c.put_steps.ensures ∙ rw z (corners_short _ _ _ _ c.byte_at.ensures refl c.if-byte_at-eq1.false n _ (first_two _ _ (byte c.args.file.now c.args.at) _ _ s n e))

pub returns-else-not-is_empty : goal.returns-else-not-is_empty
returns-else-not-is_empty c =
    room_none (byte c.args.file.now c.args.at) _ _ _ c.requires.2 c.is_empty.ensures c.if-not-is_empty.false (λ z. corners_none _ _ _ _ c.byte_at.ensures refl c.if-byte_at-eq1.false z)
