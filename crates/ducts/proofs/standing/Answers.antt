use native.Mathlib.Omega.{arith}
use Rattle.ducts.proofs.Counting.{standing_none, standing_next, bit_small}
use Rattle.ducts.proofs.standing.Goals as goal

pub loop-n-init : goal.loop-n-init
loop-n-init c = (omega arith, standing_none _)

pub loop-n-preserved : goal.loop-n-preserved
loop-n-preserved c = (omega (arith, bit_small _ _ c.from-count.ensures, c.loop-n.invariant.0), standing_next _ _ _ _ c.loop-n.invariant.1 c.from-count.ensures)
