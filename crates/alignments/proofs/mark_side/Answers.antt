-- The loop keeps: the marks below i are done.
use native.Mathlib.Omega.{arith}
use Rattle.code_table.proofs.Rows.{mark_in_range}
use Rattle.alignments.proofs.Marking.{sides_none, sides_next, sides_all, sides_mark}
use Rattle.alignments.proofs.mark_side.Goals as goal

pub loop-i-init : goal.loop-i-init
loop-i-init c = sides_none _ _ _ _ _ c.requires.marks.1.sized

pub is_on-on-requires : goal.is_on-on-requires
is_on-on-requires c = (c.line_of-line.ensures.slopes, mark_in_range _ _ _ _ c.at-p.ensures c.requires.marks.0 c.loop-i-test.true)

pub is_right-right-requires : goal.is_right-right-requires
is_right-right-requires c = (c.line_of-line.ensures.slopes, mark_in_range _ _ _ _ c.at-p.ensures c.requires.marks.0 c.loop-i-test.true)

pub loop-i-preserved : goal.loop-i-preserved
loop-i-preserved c =
    let o = c.loop-i.invariant.rest c.loop-i.i (omega arith) in
    sides_next _ _ _ _ _ _ _ _ c.loop-i-test.true
    (sides_mark _ _ _ _ _ _ _ c.line_of-line.ensures _ _ _ _ _ c.at-p.ensures c.requires.record.1 c.is_on-on.ensures c.is_right-right.ensures c.marked.ensures
    (rw (← o) at (c.requires.marks.1.each c.loop-i.i c.loop-i-test.true))) c.loop-i.invariant

pub returns : goal.returns
returns c = search sides_all
