use Rattle.std.proofs.Common.{rules}
use Rattle.yardfile.proofs.Places.{right_other, right_full, right_none, right_short, block_inside}
use Rattle.yardfile.proofs.corners_right.Goals as goal
use Rattle.yardfile.proofs.corners_right.Goals.{then-byte_at-ne1-via-then-byte_at-ne1, then-byte_at-ne1-via-else-byte_at-ne1+then-byte_at-ne2}

pub returns-then-byte_at-ne1 : goal.returns-then-byte_at-ne1
returns-then-byte_at-ne1 c =
    elim c.then-byte_at-ne1.branch [
      | then-byte_at-ne1-via-then-byte_at-ne1 w ↦ right_other _ _ _ c.byte_at.ensures w.if-byte_at-ne1.true
      | then-byte_at-ne1-via-else-byte_at-ne1+then-byte_at-ne2 w ↦
          right_full _ _ _ c.byte_at.ensures w.if-byte_at-ne1.false _ w.byte_at-else-byte_at-ne1.ensures w.if-byte_at-ne2.true
    ]

pub returns-then-byte_at-eq0 : goal.returns-then-byte_at-eq0
returns-then-byte_at-eq0 c =
    right_none _ _ _ c.byte_at.ensures c.if-byte_at-ne1.false _ _ c.byte_at-else-byte_at-ne1.ensures c.if-byte_at-ne2.false c.byte_at-2.ensures c.if-byte_at-eq0.true

pub corners_in-requires : goal.corners_in-requires
corners_in-requires c = (block_inside _ _ _ c.byte_at.ensures c.if-byte_at-ne1.false c.requires.0, search rules)

pub returns : goal.returns
returns c =
    right_short _ _ _ c.byte_at.ensures c.if-byte_at-ne1.false _ _ _ c.byte_at-else-byte_at-ne1.ensures c.if-byte_at-ne2.false c.corners_in.ensures c.inside.ensures
