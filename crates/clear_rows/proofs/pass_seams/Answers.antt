-- The loop keeps: the words before k are sifted.
use native.Mathlib.Omega.{arith}
use Rattle.clear_rows.proofs.Sifting.{changed_none, changed_next, changed_all}
use Rattle.clear_rows.proofs.pass_seams.Goals as goal

pub loop-k-init : goal.loop-k-init
loop-k-init c = search changed_none

pub loop-k-preserved : goal.loop-k-preserved
loop-k-preserved c = changed_next _ _ _ _ _ c.loop-k.invariant (omega arith) c.unshared_word.ensures

pub returns : goal.returns
returns c = changed_all _ _ _ _ c.loop-k.invariant (omega (arith, c.loop-k.invariant.sized))
