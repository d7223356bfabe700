-- The loop keeps: the codes of the marks below i are there.
use mathlib.Core.Path.{◌∙◌}
use native.Mathlib.Omega.{arith}
use Rattle.code_table.proofs.Rows.{upto_none, upto_next, row_from, mark_in_range, code_from_side}
use Rattle.code_table.proofs.side_row.Goals as goal

pub loop-i-init : goal.loop-i-init
loop-i-init c = upto_none _ _ c.requires.marks.1.sized

pub is_left-requires : goal.is_left-requires
is_left-requires c = (c.line_of-line.ensures.slopes, mark_in_range _ _ _ _ c.at.ensures c.requires.marks.0 c.loop-i-test.true)

pub loop-i-preserved : goal.loop-i-preserved
loop-i-preserved c =
    let e = c.loop-i.invariant.rest c.loop-i.i (omega arith) ∙ c.requires.marks.1.each c.loop-i.i c.loop-i-test.true in
    upto_next _ _ _ _ _ c.loop-i-test.true
    (code_from_side _ _ _ _ c.at.ensures _ _ _ _ c.line_of-line.ensures c.is_left.ensures _ _ c.requires.record.1 e c.shifted.ensures) c.loop-i.invariant

pub returns : goal.returns
returns c = search row_from
