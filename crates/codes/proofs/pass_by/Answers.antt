-- The loop keeps: the blocks before n are passed by.
use Rattle.codes.proofs.Passing.{pass_none, pass_four}
use Rattle.codes.proofs.pass_by.Goals as goal

pub loop-n-init : goal.loop-n-init
loop-n-init c = search pass_none

pub loop-n-preserved : goal.loop-n-preserved
loop-n-preserved c = pass_four _ _ _ _ _ c.loop-n-test.true (c.are_beside.ensures c.if-are_beside.true) c.loop-n.invariant
