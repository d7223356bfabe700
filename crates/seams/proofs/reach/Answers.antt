use mathlib.Core.Path.{refl, sym}
use native.Mathlib.Omega.{arith}
use Rattle.geometry.proofs.Bound.{read}
use Rattle.seams.proofs.Rounds.{not_behind, going_next, going_left, going_gone, unreached_behind}
use Rattle.seams.proofs.reach.Goals as goal

pub returns-then-behind : goal.returns-then-behind
returns-then-behind c =
    λ u v w n. unreached_behind _ _ _ (omega arith) (sym (read c.side-x.type_inv c.side-x.ensures.value)) (sym (read c.side-y.type_inv c.side-y.ensures.value))
    (c.behind.ensures.yes' c.if-behind.true) w

pub tighten-kept-requires-clause-side : goal.tighten-kept-requires-clause-side
tighten-kept-requires-clause-side c = (
  rw (read c.side-x.type_inv refl) c.side-x.ensures.small,
  rw (read c.side-y.type_inv refl) c.side-y.ensures.small,
  not_behind _ _ (c.behind.ensures.no' c.if-behind.false),
)

pub loop-k-preserved : goal.loop-k-preserved
loop-k-preserved c =
    going_next _ _ _ _ _ _ _ c.loop-k.invariant (sym (read c.side-x.type_inv c.side-x.ensures.value)) (sym (read c.side-y.type_inv c.side-y.ensures.value)) c.tighten-kept.ensures

pub returns-then-meets : goal.returns-then-meets
returns-then-meets c =
    going_left _ _ _ _ _ _ _ c.loop-k.invariant (omega arith) (omega arith) (c.meets.ensures.yes' c.if-meets.true)

pub returns-else-meets : goal.returns-else-meets
returns-else-meets c =
    going_gone _ _ _ _ _ _ _ c.loop-k.invariant (omega arith) (c.meets.ensures.no' c.if-meets.false)
