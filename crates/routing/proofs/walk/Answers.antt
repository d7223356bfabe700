-- The loop keeps: the marks so far begin the walk from the first end. The key of v falls.
use mathlib.Core.Path.{sym, ◌∙◌}
use native.Mathlib.Omega.{arith}
use lib.ListN.{length-set}
use Rattle.search.proofs.Network.{sized}
use Rattle.routing.proofs.Written.{cleared_length}
use Rattle.routing.proofs.Walks.{going_none, part_length, next_below, next_room, going_falls, going_next, arrived}
use Rattle.routing.proofs.walk.Goals as goal

pub bounds-part-3 : goal.bounds-part-3
bounds-part-3 c = omega (arith, cleared_length c.requires.m_bound.2)

pub loop-m-init : goal.loop-m-init
loop-m-init c = going_none (sized _ _ _ c.requires.searchable.fit c.requires.m_bound.0) c.requires.m_bound.1 c.requires.m_bound.2

pub next_hop-u-requires : goal.next_hop-u-requires
next_hop-u-requires c = record { searchable = c.requires.searchable; v_bound = (c.loop-m.invariant.on.below, omega arith, c.requires.m_bound.1.sized) }

pub overflow_cast-part-in-loop-m : goal.overflow_cast-part-in-loop-m
overflow_cast-part-in-loop-m c = omega (arith, next_below c.loop-m.invariant c.next_hop-u.ensures)

pub overflow_add-part : goal.overflow_add-part
overflow_add-part c = omega (arith, next_room c.loop-m.invariant c.next_hop-u.ensures)

pub offset_bounds-part-n : goal.offset_bounds-part-n
offset_bounds-part-n c = omega (arith, next_room c.loop-m.invariant c.next_hop-u.ensures)

pub bounds-part-n : goal.bounds-part-n
bounds-part-n c = omega (arith, next_room c.loop-m.invariant c.next_hop-u.ensures, part_length c.loop-m.invariant)

pub overflow_add-n : goal.overflow_add-n
overflow_add-n c = omega (arith, next_room c.loop-m.invariant c.next_hop-u.ensures)

pub shape_of-part-then-u-second : goal.shape_of-part-then-u-second
shape_of-part-then-u-second c = simp length-set (part_length c.loop-m.invariant ∙ sym (cleared_length c.requires.m_bound.2))

pub returns-then-u-second : goal.returns-then-u-second
returns-then-u-second c = arrived c.loop-m.invariant c.next_hop-u.ensures c.if-u-second.true

pub loop-m-smaller : goal.loop-m-smaller
loop-m-smaller c = going_falls c.loop-m.invariant c.next_hop-u.ensures c.if-u-second.false

pub loop-m-preserved : goal.loop-m-preserved
loop-m-preserved c = going_next c.loop-m.invariant c.next_hop-u.ensures c.if-u-second.false
