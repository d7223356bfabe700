-- The loop keeps: the marks have changed places, and only the one at `at` may be greater than its children.
use Prim.Native.Nat.{◌<◌}
use native.Mathlib.Omega.{arith}
use Rattle.geometry.specs.Words.{word}
use Rattle.heaps.specs.inner.Heaps.{Heapable}
use Rattle.heaps.proofs.Heaps.{rearranged_none, rearranged_then, rearranged_swap, heapable_rearranged, sinking_first, sinking_next, sunk_leaf, sunk_above}
use Rattle.heaps.proofs.sift.Goals as goal

pub loop-at-init : goal.loop-at-init
loop-at-init c = (rearranged_none, sinking_first c.requires.1 c.requires.2)

pub overflow_mul-at : goal.overflow_mul-at
overflow_mul-at c = omega (arith, c.loop-at.invariant.1.within, c.requires.0.few)

pub overflow_add-at : goal.overflow_add-at
overflow_add-at c = omega (arith, c.loop-at.invariant.1.within, c.requires.0.few)

pub lesser_child-to-requires : goal.lesser_child-to-requires
lesser_child-to-requires c = ((let h : Heapable c.args.bounds.now c.args.key.now c.loop-at.order c.args.n = heapable_rearranged c.requires.0 c.loop-at.invariant.0 in h), c.loop-at-test.true)

pub offset_bounds-order-at : goal.offset_bounds-order-at
offset_bounds-order-at c = omega (arith, c.loop-at-test.true, c.requires.0.few)

pub bounds-order-at : goal.bounds-order-at
bounds-order-at c = omega (arith, c.loop-at-test.true, ((let h : Heapable c.args.bounds.now c.args.key.now c.loop-at.order c.args.n = heapable_rearranged c.requires.0 c.loop-at.invariant.0 in h)).sums.listed)

pub overflow_cast-u : goal.overflow_cast-u
overflow_cast-u c =
    let h : word c.loop-at.order c.loop-at.at < 240 = ((let h : Heapable c.args.bounds.now c.args.key.now c.loop-at.order c.args.n = heapable_rearranged c.requires.0 c.loop-at.invariant.0 in h)).sums.marks c.loop-at.at (omega arith) (omega (arith, c.loop-at-test.true)) in
    omega (arith, h)

pub offset_bounds-order-to : goal.offset_bounds-order-to
offset_bounds-order-to c = omega (arith, c.lesser_child-to.ensures.within, c.requires.0.few)

pub bounds-order-to : goal.bounds-order-to
bounds-order-to c = omega (arith, c.lesser_child-to.ensures.within, ((let h : Heapable c.args.bounds.now c.args.key.now c.loop-at.order c.args.n = heapable_rearranged c.requires.0 c.loop-at.invariant.0 in h)).sums.listed)

pub overflow_cast-v : goal.overflow_cast-v
overflow_cast-v c =
    let h : word c.loop-at.order c.lesser_child-to.result < 240 = ((let h : Heapable c.args.bounds.now c.args.key.now c.loop-at.order c.args.n = heapable_rearranged c.requires.0 c.loop-at.invariant.0 in h)).sums.marks c.lesser_child-to.result (omega arith) c.lesser_child-to.ensures.within in
    omega (arith, h)

pub offset_bounds-key-u : goal.offset_bounds-key-u
offset_bounds-key-u c =
    let h : word c.loop-at.order c.loop-at.at < 240 = ((let h : Heapable c.args.bounds.now c.args.key.now c.loop-at.order c.args.n = heapable_rearranged c.requires.0 c.loop-at.invariant.0 in h)).sums.marks c.loop-at.at (omega arith) (omega (arith, c.loop-at-test.true)) in
    omega (arith, h)

pub bounds-key-u : goal.bounds-key-u
bounds-key-u c =
    let h : word c.loop-at.order c.loop-at.at < 240 = ((let h : Heapable c.args.bounds.now c.args.key.now c.loop-at.order c.args.n = heapable_rearranged c.requires.0 c.loop-at.invariant.0 in h)).sums.marks c.loop-at.at (omega arith) (omega (arith, c.loop-at-test.true)) in
    omega (arith, h, c.requires.0.sums.keyed)

pub offset_bounds-bounds-u : goal.offset_bounds-bounds-u
offset_bounds-bounds-u c =
    let h : word c.loop-at.order c.loop-at.at < 240 = ((let h : Heapable c.args.bounds.now c.args.key.now c.loop-at.order c.args.n = heapable_rearranged c.requires.0 c.loop-at.invariant.0 in h)).sums.marks c.loop-at.at (omega arith) (omega (arith, c.loop-at-test.true)) in
    omega (arith, h)

pub bounds-bounds-u : goal.bounds-bounds-u
bounds-bounds-u c =
    let h : word c.loop-at.order c.loop-at.at < 240 = ((let h : Heapable c.args.bounds.now c.args.key.now c.loop-at.order c.args.n = heapable_rearranged c.requires.0 c.loop-at.invariant.0 in h)).sums.marks c.loop-at.at (omega arith) (omega (arith, c.loop-at-test.true)) in
    omega (arith, h, c.requires.0.sums.bounded)

pub overflow_add-key : goal.overflow_add-key
overflow_add-key c = omega (arith, ((let h : Heapable c.args.bounds.now c.args.key.now c.loop-at.order c.args.n = heapable_rearranged c.requires.0 c.loop-at.invariant.0 in h)).sums.small c.loop-at.at (omega arith) (omega (arith, c.loop-at-test.true)))

pub offset_bounds-key-v : goal.offset_bounds-key-v
offset_bounds-key-v c =
    let h : word c.loop-at.order c.lesser_child-to.result < 240 = ((let h : Heapable c.args.bounds.now c.args.key.now c.loop-at.order c.args.n = heapable_rearranged c.requires.0 c.loop-at.invariant.0 in h)).sums.marks c.lesser_child-to.result (omega arith) c.lesser_child-to.ensures.within in
    omega (arith, h)

pub bounds-key-v : goal.bounds-key-v
bounds-key-v c =
    let h : word c.loop-at.order c.lesser_child-to.result < 240 = ((let h : Heapable c.args.bounds.now c.args.key.now c.loop-at.order c.args.n = heapable_rearranged c.requires.0 c.loop-at.invariant.0 in h)).sums.marks c.lesser_child-to.result (omega arith) c.lesser_child-to.ensures.within in
    omega (arith, h, c.requires.0.sums.keyed)

pub offset_bounds-bounds-v : goal.offset_bounds-bounds-v
offset_bounds-bounds-v c =
    let h : word c.loop-at.order c.lesser_child-to.result < 240 = ((let h : Heapable c.args.bounds.now c.args.key.now c.loop-at.order c.args.n = heapable_rearranged c.requires.0 c.loop-at.invariant.0 in h)).sums.marks c.lesser_child-to.result (omega arith) c.lesser_child-to.ensures.within in
    omega (arith, h)

pub bounds-bounds-v : goal.bounds-bounds-v
bounds-bounds-v c =
    let h : word c.loop-at.order c.lesser_child-to.result < 240 = ((let h : Heapable c.args.bounds.now c.args.key.now c.loop-at.order c.args.n = heapable_rearranged c.requires.0 c.loop-at.invariant.0 in h)).sums.marks c.lesser_child-to.result (omega arith) c.lesser_child-to.ensures.within in
    omega (arith, h, c.requires.0.sums.bounded)

pub overflow_add-key-in-loop-at : goal.overflow_add-key-in-loop-at
overflow_add-key-in-loop-at c = omega (arith, ((let h : Heapable c.args.bounds.now c.args.key.now c.loop-at.order c.args.n = heapable_rearranged c.requires.0 c.loop-at.invariant.0 in h)).sums.small c.lesser_child-to.result (omega arith) c.lesser_child-to.ensures.within)

pub shape_of-order-then-key-u : goal.shape_of-order-then-key-u
shape_of-order-then-key-u c = c.loop-at.invariant.0.sized

pub returns-then-key-u : goal.returns-then-key-u
returns-then-key-u c = record { heap = sunk_above c.loop-at.invariant.1 c.lesser_child-to.ensures c.if-key-u.true; marks = c.loop-at.invariant.0 }

pub swap-requires : goal.swap-requires
swap-requires c = (omega (arith, c.loop-at-test.true, ((let h : Heapable c.args.bounds.now c.args.key.now c.loop-at.order c.args.n = heapable_rearranged c.requires.0 c.loop-at.invariant.0 in h)).sums.listed), omega (arith, c.lesser_child-to.ensures.within, ((let h : Heapable c.args.bounds.now c.args.key.now c.loop-at.order c.args.n = heapable_rearranged c.requires.0 c.loop-at.invariant.0 in h)).sums.listed))

pub loop-at-smaller : goal.loop-at-smaller
loop-at-smaller c = omega (arith, c.lesser_child-to.ensures.from, c.lesser_child-to.ensures.within)

pub loop-at-preserved : goal.loop-at-preserved
loop-at-preserved c = (
  rearranged_then c.loop-at.invariant.0 (rearranged_swap c.swap.ensures (omega (arith, c.lesser_child-to.ensures.from)) c.lesser_child-to.ensures.within),
  sinking_next c.loop-at.invariant.1 c.lesser_child-to.ensures c.if-key-u.false c.swap.ensures,
)

pub shape_of-order : goal.shape_of-order
shape_of-order c = c.loop-at.invariant.0.sized

pub returns : goal.returns
returns c = record { heap = sunk_leaf c.loop-at.invariant.1 c.loop-at-test.false; marks = c.loop-at.invariant.0 }
