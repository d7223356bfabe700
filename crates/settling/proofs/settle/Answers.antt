-- The loop keeps the state; n, the number of waiting marks, falls.
use mathlib.Core.Path.{sym, ◌∙◌}
use native.Mathlib.Omega.{arith}
use Rattle.heaps.proofs.Sums.{found_in, least_end}
use Rattle.settling.proofs.States.{state_first, bends, none_found, way_found, settled_due, state_next}
use Rattle.settling.proofs.settle.Goals as goal

pub list_bends-n-requires : goal.list_bends-n-requires
list_bends-n-requires g c = (c.requires.fit.0.blocks.sized, omega arith, omega (arith, c.requires.m_bound.0))

pub settle_end-u-requires : goal.settle_end-u-requires
settle_end-u-requires g c = record { fit = (c.requires.fit.0, c.requires.fit.1, c.requires.m_bound.0); told = c.requires.told.0; ranked = (c.list_bends-n.ensures.ranked, c.requires.m_bound.1, c.list_bends-n.ensures.sums) }

pub loop-at-init : goal.loop-at-init
loop-at-init g c = state_first c.requires.fit.0 c.requires.m_bound.0 c.list_bends-n.ensures.ranked c.requires.m_bound.1 c.settle_end-u.ensures

pub least_sum-requires : goal.least_sum-requires
least_sum-requires g c = (omega (arith, c.loop-at.invariant.parted.summed, c.loop-at.invariant.parted.few), c.loop-at.invariant.parted.low)

pub shape_of-key-in_default : goal.shape_of-key-in_default
shape_of-key-in_default g c = c.loop-at.invariant.parted.keyed ∙ sym c.requires.m_bound.1.sized

pub returns-in_default : goal.returns-in_default
returns-in_default g c = none_found c.loop-at.invariant (least_end c.loop-at.invariant.parted.low c.in_default.ensures) (omega arith)

pub offset_bounds-key-first : goal.offset_bounds-key-first
offset_bounds-key-first g c = omega (arith, c.requires.m_bound.0)

pub bounds-key-first : goal.bounds-key-first
bounds-key-first g c = omega (arith, c.loop-at.invariant.parted.keyed, c.requires.m_bound.0)

pub offset_bounds-list-at : goal.offset_bounds-list-at
offset_bounds-list-at g c = omega (arith, c.loop-at.invariant.parted.few, (found_in _ _ _ _ c.in-Some.ensures).0)

pub bounds-list-at : goal.bounds-list-at
bounds-list-at g c = omega (arith, c.loop-at.invariant.parted.few, (found_in _ _ _ _ c.in-Some.ensures).0)

pub shape_of-key-then-key-first : goal.shape_of-key-then-key-first
shape_of-key-then-key-first g c = c.loop-at.invariant.parted.keyed ∙ sym c.requires.m_bound.1.sized

pub returns-then-key-first : goal.returns-then-key-first
returns-then-key-first g c = way_found c.loop-at.invariant (found_in _ _ _ _ c.in-Some.ensures).1 (found_in _ _ _ _ c.in-Some.ensures).0 c.if-key-first.true

pub settle_mark-u-requires : goal.settle_mark-u-requires
settle_mark-u-requires g c =
    let x = c.loop-at.invariant in
    record { fit = (c.requires.fit.0, c.requires.fit.1, c.requires.m_bound.0); told = c.requires.told.1; parted = (x.parted, bends x, settled_due x (found_in _ _ _ _ c.in-Some.ensures).1 (found_in _ _ _ _ c.in-Some.ensures).0 c.if-key-first.false) }

pub overflow_sub-n : goal.overflow_sub-n
overflow_sub-n g c = omega (arith, (found_in _ _ _ _ c.in-Some.ensures).0)

pub loop-at-smaller : goal.loop-at-smaller
loop-at-smaller g c = omega (arith, (found_in _ _ _ _ c.in-Some.ensures).0)

pub loop-at-preserved : goal.loop-at-preserved
loop-at-preserved g c = state_next c.loop-at.invariant (found_in _ _ _ _ c.in-Some.ensures).1 (found_in _ _ _ _ c.in-Some.ensures).0 c.if-key-first.false c.settle_mark-u.ensures
