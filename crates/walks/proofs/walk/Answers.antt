use mathlib.Core.Path.{◌∙◌}
use native.Mathlib.Omega.{arith}
use lib.ListN.{length-map}
use Rattle.std.proofs.lemmas.List.{map-set}
use Rattle.crossings.specs.inner.Directions.{code}
use Rattle.crossings.proofs.Sizes.{net_sized}
use Rattle.walks.proofs.Labelling.{inside_below}
use Rattle.walks.proofs.Ending.{inside, mapped}
use Rattle.walks.proofs.Trails.{led_to, on_line_lem, going_none, going_room, next_inside, key_falls, going_next, arrived}
use Rattle.walks.proofs.walk.Goals as goal

pub loop-v-init : goal.loop-v-init
loop-v-init c = going_none (length-map _ _ ∙ c.requires.ends.2) (inside c.requires.tables.0 c.requires.ends.0) c.label-key.ensures.value (omega (arith, c.label-key.ensures.value, c.requires.way))

pub bounds-trail-n : goal.bounds-trail-n
bounds-trail-n c = let o = c.loop-v.invariant in omega (arith, o.sized, length-map c.loop-v.trail code, going_room (mapped _ _ _ _ _ c.requires.tables.0 c.requires.tables.1) (net_sized _ _ _ _ _ c.requires.tables.0) c.requires.keys (inside c.requires.tables.0 c.requires.ends.1) o c.loop-v-test.true)

pub label-key-requires-in-loop-v-clause-keys : goal.label-key-requires-in-loop-v-clause-keys
label-key-requires-in-loop-v-clause-keys c =
    let r = c.requires.tables.0 in
    let i = next_inside (mapped _ _ _ _ _ r c.requires.tables.1) (net_sized _ _ _ _ _ r) c.requires.keys (inside r c.requires.ends.1) c.loop-v.invariant c.next_direction-d.ensures in
    (c.requires.keys.fair.top_sized, c.requires.keys.fair.low_sized, omega (arith, led_to c.neighbour.ensures c.unwrap-v.ensures, inside_below r.xs_few r.ys_few i), on_line_lem (led_to c.neighbour.ensures c.unwrap-v.ensures) i.east, r.xs_few)

pub overflow_add-n : goal.overflow_add-n
overflow_add-n c = omega (arith, going_room (mapped _ _ _ _ _ c.requires.tables.0 c.requires.tables.1) (net_sized _ _ _ _ _ c.requires.tables.0) c.requires.keys (inside c.requires.tables.0 c.requires.ends.1) c.loop-v.invariant c.loop-v-test.true)

pub loop-v-smaller : goal.loop-v-smaller
loop-v-smaller c = key_falls (mapped _ _ _ _ _ c.requires.tables.0 c.requires.tables.1) (net_sized _ _ _ _ _ c.requires.tables.0) c.requires.keys (inside c.requires.tables.0 c.requires.ends.1) c.loop-v.invariant c.next_direction-d.ensures c.axis.ensures (led_to c.neighbour.ensures c.unwrap-v.ensures) c.label-key-in-loop-v.ensures.value

pub loop-v-preserved : goal.loop-v-preserved
loop-v-preserved c = rw map-set (going_next (mapped _ _ _ _ _ c.requires.tables.0 c.requires.tables.1) (net_sized _ _ _ _ _ c.requires.tables.0) c.requires.keys (inside c.requires.tables.0 c.requires.ends.1) c.loop-v.invariant c.next_direction-d.ensures c.axis.ensures (led_to c.neighbour.ensures c.unwrap-v.ensures) c.label-key-in-loop-v.ensures.value c.loop-v-test.true)

pub returns : goal.returns
returns c = arrived (mapped _ _ _ _ _ c.requires.tables.0 c.requires.tables.1) (net_sized _ _ _ _ _ c.requires.tables.0) c.requires.keys (inside c.requires.tables.0 c.requires.ends.1) c.loop-v.invariant c.loop-v-test.false
