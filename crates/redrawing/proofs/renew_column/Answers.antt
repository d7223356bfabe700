use Rattle.redrawing.proofs.Rows.{renew_column_none, renew_column_next, renew_column_all}
use native.Mathlib.Omega.{arith}
use Rattle.redrawing.proofs.renew_column.Goals as goal

pub loop-j-init : goal.loop-j-init
loop-j-init c = search renew_column_none

pub loop-j-preserved : goal.loop-j-preserved
loop-j-preserved c = renew_column_next _ _ _ _ _ _ _ (omega (arith, c.loop-j.auto.j)) c.loop-j-test.true c.pair_index.ensures.value c.fresh_byte.ensures c.loop-j.invariant

pub returns : goal.returns
returns c = renew_column_all _ _ _ _ _ c.loop-j-test.false (c.loop-j.auto.j-end (omega arith)) c.loop-j.invariant
