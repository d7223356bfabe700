-- The loop keeps: the marks before place j are eased.
use native.Mathlib.Omega.{arith}
use Rattle.lazy_search.proofs.Steps.{eased_none, eased_next}
use Rattle.lazy_search.proofs.ease.Goals as goal

pub loop-j-init : goal.loop-j-init
loop-j-init c = (c.requires.sound.2, eased_none)

pub loop-j-preserved : goal.loop-j-preserved
loop-j-preserved c =
    let k = rw c.from-v.ensures at c.improved.ensures.key in
    let b = c.requires.easing.marks c.loop-j.j (omega arith) (omega arith) in
    (c.improved.ensures.sized, rw c.from-v.ensures (eased_next (omega arith) (omega (arith, b, c.requires.easing.keyed)) c.loop-j.invariant.1 k))
