use Rattle.redrawing.proofs.Rows.{row_none, row_next, row_all}
use native.Mathlib.Omega.{arith}
use Rattle.redrawing.proofs.redraw_row.Goals as goal

pub loop-i-init : goal.loop-i-init
loop-i-init c = search row_none

pub loop-i-preserved : goal.loop-i-preserved
loop-i-preserved c = row_next _ _ _ _ _ _ _ (omega (arith, c.loop-i.invariant.sized)) c.block_byte.ensures c.loop-i.invariant

pub returns : goal.returns
returns c = row_all _ _ _ _ _ _ (omega (arith, c.loop-i.invariant.sized)) c.loop-i.invariant
