-- The loop keeps: the marks so far begin the walk from the first end. The key of v falls.
use mathlib.Core.Path.{refl, sym, ◌∙◌}
use native.Mathlib.Omega.{arith}
use lib.ListN.{length-set}
use Rattle.search.proofs.Network.{sized}
use Rattle.routing.proofs.Written.{cleared_length}
use Rattle.routing.proofs.Walks.{going_none, part_length, next_below, next_room, going_falls, going_next, arrived}
use Rattle.lazy_routes.proofs.walk.Goals as goal

pub bounds-part-3 : goal.bounds-part-3
bounds-part-3 c = omega (arith, cleared_length c.requires.m_bound.2)

pub loop-last-init : goal.loop-last-init
loop-last-init c = (going_none (sized _ _ _ c.requires.sound.0.fit c.requires.m_bound.0) c.requires.m_bound.1 c.requires.m_bound.2, refl)

pub next_hop-u-requires : goal.next_hop-u-requires
next_hop-u-requires c =
    let i = c.loop-last.invariant in
    record { sound = (c.requires.sound.0, c.requires.sound.1, i.1); v_bound = (i.0.on.below, omega arith, c.requires.m_bound.1.sized) }

pub overflow_cast-part-in-loop-last : goal.overflow_cast-part-in-loop-last
overflow_cast-part-in-loop-last c = omega (arith, next_below c.loop-last.invariant.0 c.next_hop-u.ensures.hop)

pub overflow_add-part : goal.overflow_add-part
overflow_add-part c = omega (arith, next_room c.loop-last.invariant.0 c.next_hop-u.ensures.hop)

pub offset_bounds-part-n : goal.offset_bounds-part-n
offset_bounds-part-n c = omega (arith, next_room c.loop-last.invariant.0 c.next_hop-u.ensures.hop)

pub bounds-part-n : goal.bounds-part-n
bounds-part-n c = omega (arith, next_room c.loop-last.invariant.0 c.next_hop-u.ensures.hop, part_length c.loop-last.invariant.0)

pub overflow_add-n : goal.overflow_add-n
overflow_add-n c = omega (arith, next_room c.loop-last.invariant.0 c.next_hop-u.ensures.hop)

pub shape_of-part-then-u-second : goal.shape_of-part-then-u-second
shape_of-part-then-u-second c = simp length-set (part_length c.loop-last.invariant.0 ∙ sym (cleared_length c.requires.m_bound.2))

pub returns-then-u-second : goal.returns-then-u-second
returns-then-u-second c = arrived c.loop-last.invariant.0 c.next_hop-u.ensures.hop c.if-u-second.true

pub loop-last-smaller : goal.loop-last-smaller
loop-last-smaller c = going_falls c.loop-last.invariant.0 c.next_hop-u.ensures.hop c.if-u-second.false

pub loop-last-preserved : goal.loop-last-preserved
loop-last-preserved c = (going_next c.loop-last.invariant.0 c.next_hop-u.ensures.hop c.if-u-second.false, c.next_hop-u.ensures.sized)
