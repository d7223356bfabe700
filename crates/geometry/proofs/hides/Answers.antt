use Rattle.lists.proofs.Telling.{tells_no, denied}
use mathlib.Core.Path.{sym}
use native.Mathlib.Omega.{arith}
use Rattle.geometry.proofs.Bound.{read}
use Rattle.geometry.proofs.Narrowing.{neither}
use Rattle.geometry.proofs.Searching.{passed_next, passed_shut, passed_all}
use Rattle.geometry.proofs.hides.Goals as goal

pub returns-then-not-either : goal.returns-then-not-either
returns-then-not-either c =
    tells_no
    (passed_shut _ _ _ (omega arith) (sym (read c.side-x.type_inv c.side-x.ensures.value)) (sym (read c.side-y.type_inv c.side-y.ensures.value))
    (neither _ _ (denied c.either.ensures c.if-not-either.true-raw)))

pub loop-k-preserved : goal.loop-k-preserved
loop-k-preserved c =
    passed_next _ _ _ c.loop-k.invariant (sym (read c.side-x.type_inv c.side-x.ensures.value)) (sym (read c.side-y.type_inv c.side-y.ensures.value)) c.narrow-kept.ensures

pub returns-then-count-gt0 : goal.returns-then-count-gt0
returns-then-count-gt0 c = passed_all _ _ _ c.loop-k.invariant (omega arith) c.if-count-gt0.true c.parted.ensures
