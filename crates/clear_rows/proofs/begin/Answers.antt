-- The loop keeps: the words before k say which corners are left before any block is passed.
use native.Mathlib.Omega.{arith}
use Rattle.clear_rows.proofs.Sifting.{changed_none, changed_next, all_said}
use Rattle.clear_rows.proofs.begin.Goals as goal

pub loop-k-init : goal.loop-k-init
loop-k-init c = search changed_none

pub loop-k-preserved : goal.loop-k-preserved
loop-k-preserved c = changed_next _ _ _ _ _ c.loop-k.invariant (omega arith) c.first_word.ensures

pub returns : goal.returns
returns c = all_said _ _ _ _ c.loop-k.invariant (omega (arith, c.loop-k.invariant.sized))
