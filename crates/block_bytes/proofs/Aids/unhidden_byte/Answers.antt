use Rattle.visibility.proofs.Bytes.{place_is_in_range}
use Rattle.block_bytes.proofs.Touching.{touched_in, straight_seam, straight_clear}
use Rattle.block_bytes.proofs.Aids.unhidden_byte.Goals as goal

pub shared_among-requires : goal.shared_among-requires
shared_among-requires c =
    let d = c.requires.aids in
    let f = d.coded.records.fit in
    let m = c.requires.marks in
    let p = c.requires.ends in
    record {
      blocks = (f.blocks, d.near);
      touched = (c.touched-t.ensures.small, touched_in _ _ _ _ _ _ _ _ _ _ _ d.coded d.lined m.0 m.1 m.2 p.0 p.1 c.touched-t.ensures);
      ends = (place_is_in_range _ _ _ f m.0 p.0, place_is_in_range _ _ _ f m.1 p.1);
    }

pub returns-then-shared_among : goal.returns-then-shared_among
returns-then-shared_among c = search straight_seam

pub returns-else-shared_among : goal.returns-else-shared_among
returns-else-shared_among c = search straight_clear
