-- The loop keeps the turn, whatever list the bending places are named by, and the heap of the marks hoped for; these and those waiting get fewer.
use mathlib.Core.Path.{refl, sym, ◌∙◌}
use Prim.Native.Nat.{◌+◌, ◌<◌}
use native.Mathlib.Omega.{arith}
use lib.ListN.{length}
use Rattle.lazy_search.proofs.Turns.{first_turn, rearranged_turn, compare_hoped, compare_tried, heapable, heap_least, answer_none, answer_found, easing, settled_turn, settled_heap, testable, tried_turn, tried_heap}
use Rattle.lazy_search.proofs.settle.Goals as goal

pub overflow_add-count : goal.overflow_add-count
overflow_add-count c = omega (arith, c.requires.3.bends.few)

pub prepare-requires : goal.prepare-requires
prepare-requires c = record { fit = (c.requires.0.fit, c.requires.2, c.requires.3); bounds_len = (refl, c.requires.4) }

pub overflow_add-hoped : goal.overflow_add-hoped
overflow_add-hoped c = omega (arith, c.requires.3.bends.few)

pub overflow_add-due : goal.overflow_add-due
overflow_add-due c = omega (arith, c.requires.3.bends.few)

pub slice_bounds-heapify-end : goal.slice_bounds-heapify-end
slice_bounds-heapify-end c = sym c.prepare.ensures.looked.sized

pub heapify-requires : goal.heapify-requires
heapify-requires c = heapable (first_turn c.requires.0.fit c.requires.2 c.requires.3 c.prepare.ensures)

pub loop-hoped-init : goal.loop-hoped-init
loop-hoped-init c = (λ bends t. t, c.heapify.ensures.heap, refl)

pub slice_bounds-least-end : goal.slice_bounds-least-end
slice_bounds-least-end c = sym (c.loop-hoped.invariant.0 c.args.order.now (rearranged_turn (first_turn c.requires.0.fit c.requires.2 c.requires.3 c.prepare.ensures) c.heapify.ensures.marks)).sized

pub least-next-requires : goal.least-next-requires
least-next-requires c = compare_tried (c.loop-hoped.invariant.0 c.args.order.now (rearranged_turn (first_turn c.requires.0.fit c.requires.2 c.requires.3 c.prepare.ensures) c.heapify.ensures.marks))

pub slice_bounds-sooner-end : goal.slice_bounds-sooner-end
slice_bounds-sooner-end c = sym (c.loop-hoped.invariant.0 c.args.order.now (rearranged_turn (first_turn c.requires.0.fit c.requires.2 c.requires.3 c.prepare.ensures) c.heapify.ensures.marks)).sized

pub sooner-requires : goal.sooner-requires
sooner-requires c = (compare_hoped (c.loop-hoped.invariant.0 c.args.order.now (rearranged_turn (first_turn c.requires.0.fit c.requires.2 c.requires.3 c.prepare.ensures) c.heapify.ensures.marks)), compare_tried (c.loop-hoped.invariant.0 c.args.order.now (rearranged_turn (first_turn c.requires.0.fit c.requires.2 c.requires.3 c.prepare.ensures) c.heapify.ensures.marks)), c.least-next.ensures.from)

pub overflow_sub-hoped : goal.overflow_sub-hoped
overflow_sub-hoped c = omega (arith, c.sooner.ensures.hope c.if-sooner.true)

pub bounds-order-0 : goal.bounds-order-0
bounds-order-0 c = omega (arith, (c.loop-hoped.invariant.0 c.args.order.now (rearranged_turn (first_turn c.requires.0.fit c.requires.2 c.requires.3 c.prepare.ensures) c.heapify.ensures.marks)).zones.sized)

pub swap-requires : goal.swap-requires
swap-requires c = (omega (arith, (c.loop-hoped.invariant.0 c.args.order.now (rearranged_turn (first_turn c.requires.0.fit c.requires.2 c.requires.3 c.prepare.ensures) c.heapify.ensures.marks)).zones.sized), omega (arith, c.sooner.ensures.hope c.if-sooner.true, (compare_hoped (c.loop-hoped.invariant.0 c.args.order.now (rearranged_turn (first_turn c.requires.0.fit c.requires.2 c.requires.3 c.prepare.ensures) c.heapify.ensures.marks))).listed))

pub slice_bounds-tried_key-end : goal.slice_bounds-tried_key-end
slice_bounds-tried_key-end c = sym c.loop-hoped.invariant.2

pub tried_key-requires : goal.tried_key-requires
tried_key-requires c = record { sound = (c.requires.0, c.requires.1, c.loop-hoped.invariant.2); testable = rw c.from-v.ensures (testable (c.loop-hoped.invariant.0 c.args.order.now (rearranged_turn (first_turn c.requires.0.fit c.requires.2 c.requires.3 c.prepare.ensures) c.heapify.ensures.marks)) (c.sooner.ensures.hope c.if-sooner.true) c.swap.ensures) }

pub offset_bounds-key-v : goal.offset_bounds-key-v
offset_bounds-key-v c = omega (arith, (c.loop-hoped.invariant.0 c.args.order.now (rearranged_turn (first_turn c.requires.0.fit c.requires.2 c.requires.3 c.prepare.ensures) c.heapify.ensures.marks)).zones.marks 0 (omega arith))

pub bounds-key-v : goal.bounds-key-v
bounds-key-v c = omega (arith, (c.loop-hoped.invariant.0 c.args.order.now (rearranged_turn (first_turn c.requires.0.fit c.requires.2 c.requires.3 c.prepare.ensures) c.heapify.ensures.marks)).zones.marks 0 (omega arith), (c.loop-hoped.invariant.0 c.args.order.now (rearranged_turn (first_turn c.requires.0.fit c.requires.2 c.requires.3 c.prepare.ensures) c.heapify.ensures.marks)).inv.keyed)

pub slice_bounds-sift-end : goal.slice_bounds-sift-end
slice_bounds-sift-end c = sym (c.loop-hoped.invariant.0 c.args.order.now (rearranged_turn (first_turn c.requires.0.fit c.requires.2 c.requires.3 c.prepare.ensures) c.heapify.ensures.marks)).sized

pub sift-requires : goal.sift-requires
sift-requires c = rw c.from-v.ensures (
  heapable (tried_turn (c.loop-hoped.invariant.0 c.args.order.now (rearranged_turn (first_turn c.requires.0.fit c.requires.2 c.requires.3 c.prepare.ensures) c.heapify.ensures.marks)) (c.sooner.ensures.hope c.if-sooner.true) c.swap.ensures (rw c.from-v.ensures at c.tried_key.ensures.key)),
  omega arith,
  tried_heap (c.loop-hoped.invariant.0 c.args.order.now (rearranged_turn (first_turn c.requires.0.fit c.requires.2 c.requires.3 c.prepare.ensures) c.heapify.ensures.marks)) (c.sooner.ensures.hope c.if-sooner.true) c.swap.ensures c.tried_key.result refl c.loop-hoped.invariant.1,
)

pub loop-hoped-smaller-then-sooner : goal.loop-hoped-smaller-then-sooner
loop-hoped-smaller-then-sooner c = omega (arith, c.sooner.ensures.hope c.if-sooner.true)

pub loop-hoped-preserved-then-sooner : goal.loop-hoped-preserved-then-sooner
loop-hoped-preserved-then-sooner c = (
  λ bends t. rearranged_turn (rw c.from-v.ensures (tried_turn (c.loop-hoped.invariant.0 bends t) (c.sooner.ensures.hope c.if-sooner.true) c.swap.ensures (rw c.from-v.ensures at c.tried_key.ensures.key))) c.sift.ensures.marks,
  c.sift.ensures.heap,
  c.tried_key.ensures.sized,
)

pub shape_of-order-then-due-next : goal.shape_of-order-then-due-next
shape_of-order-then-due-next c = (c.loop-hoped.invariant.0 c.args.order.now (rearranged_turn (first_turn c.requires.0.fit c.requires.2 c.requires.3 c.prepare.ensures) c.heapify.ensures.marks)).zones.sized ∙ sym c.requires.3.bends.sized

pub shape_of-key-then-due-next : goal.shape_of-key-then-due-next
shape_of-key-then-due-next c = (c.loop-hoped.invariant.0 c.args.order.now (rearranged_turn (first_turn c.requires.0.fit c.requires.2 c.requires.3 c.prepare.ensures) c.heapify.ensures.marks)).inv.keyed ∙ sym c.requires.4.sized

pub returns-then-due-next : goal.returns-then-due-next
returns-then-due-next c = answer_none (c.loop-hoped.invariant.0 c.args.order.now (rearranged_turn (first_turn c.requires.0.fit c.requires.2 c.requires.3 c.prepare.ensures) c.heapify.ensures.marks)) (heap_least (c.loop-hoped.invariant.0 c.args.order.now (rearranged_turn (first_turn c.requires.0.fit c.requires.2 c.requires.3 c.prepare.ensures) c.heapify.ensures.marks)) c.loop-hoped.invariant.1) c.least-next.ensures c.sooner.ensures c.if-sooner.false c.if-due-next.true

pub offset_bounds-order-next : goal.offset_bounds-order-next
offset_bounds-order-next c =
    let h : c.least-next.result < c.args.n + 2 = omega (arith, c.if-due-next.false, (c.loop-hoped.invariant.0 c.args.order.now (rearranged_turn (first_turn c.requires.0.fit c.requires.2 c.requires.3 c.prepare.ensures) c.heapify.ensures.marks)).zones.rest) in
    omega (arith, h, (c.loop-hoped.invariant.0 c.args.order.now (rearranged_turn (first_turn c.requires.0.fit c.requires.2 c.requires.3 c.prepare.ensures) c.heapify.ensures.marks)).zones.few)

pub bounds-order-next : goal.bounds-order-next
bounds-order-next c =
    let h : c.least-next.result < length c.loop-hoped.order = omega (arith, c.if-due-next.false, (compare_tried (c.loop-hoped.invariant.0 c.args.order.now (rearranged_turn (first_turn c.requires.0.fit c.requires.2 c.requires.3 c.prepare.ensures) c.heapify.ensures.marks))).listed) in
    omega (arith, h)

pub shape_of-order-then-s-first : goal.shape_of-order-then-s-first
shape_of-order-then-s-first c = (c.loop-hoped.invariant.0 c.args.order.now (rearranged_turn (first_turn c.requires.0.fit c.requires.2 c.requires.3 c.prepare.ensures) c.heapify.ensures.marks)).zones.sized ∙ sym c.requires.3.bends.sized

pub shape_of-key-then-s-first : goal.shape_of-key-then-s-first
shape_of-key-then-s-first c = (c.loop-hoped.invariant.0 c.args.order.now (rearranged_turn (first_turn c.requires.0.fit c.requires.2 c.requires.3 c.prepare.ensures) c.heapify.ensures.marks)).inv.keyed ∙ sym c.requires.4.sized

pub returns-then-s-first : goal.returns-then-s-first
returns-then-s-first c = answer_found (c.loop-hoped.invariant.0 c.args.order.now (rearranged_turn (first_turn c.requires.0.fit c.requires.2 c.requires.3 c.prepare.ensures) c.heapify.ensures.marks)) (heap_least (c.loop-hoped.invariant.0 c.args.order.now (rearranged_turn (first_turn c.requires.0.fit c.requires.2 c.requires.3 c.prepare.ensures) c.heapify.ensures.marks)) c.loop-hoped.invariant.1) c.least-next.ensures c.sooner.ensures c.if-sooner.false (omega (arith, c.if-due-next.false)) (sym c.from-s.ensures ∙ c.if-s-first.true)

pub overflow_sub-due : goal.overflow_sub-due
overflow_sub-due c = omega (arith, c.if-due-next.false)

pub swap-requires-in-loop-hoped : goal.swap-requires-in-loop-hoped
swap-requires-in-loop-hoped c = (omega (arith, (let h : c.least-next.result < length c.loop-hoped.order = omega (arith, c.if-due-next.false, (compare_tried (c.loop-hoped.invariant.0 c.args.order.now (rearranged_turn (first_turn c.requires.0.fit c.requires.2 c.requires.3 c.prepare.ensures) c.heapify.ensures.marks))).listed) in h)), omega (arith, (let h : c.least-next.result < length c.loop-hoped.order = omega (arith, c.if-due-next.false, (compare_tried (c.loop-hoped.invariant.0 c.args.order.now (rearranged_turn (first_turn c.requires.0.fit c.requires.2 c.requires.3 c.prepare.ensures) c.heapify.ensures.marks))).listed) in h), c.if-due-next.false, (compare_tried (c.loop-hoped.invariant.0 c.args.order.now (rearranged_turn (first_turn c.requires.0.fit c.requires.2 c.requires.3 c.prepare.ensures) c.heapify.ensures.marks))).listed))

pub offset_bounds-key-s : goal.offset_bounds-key-s
offset_bounds-key-s c = omega (arith, (c.loop-hoped.invariant.0 c.args.order.now (rearranged_turn (first_turn c.requires.0.fit c.requires.2 c.requires.3 c.prepare.ensures) c.heapify.ensures.marks)).zones.marks _ ((let h : c.least-next.result < c.args.n + 2 = omega (arith, c.if-due-next.false, (c.loop-hoped.invariant.0 c.args.order.now (rearranged_turn (first_turn c.requires.0.fit c.requires.2 c.requires.3 c.prepare.ensures) c.heapify.ensures.marks)).zones.rest) in h)))

pub bounds-key-s : goal.bounds-key-s
bounds-key-s c = omega (arith, (c.loop-hoped.invariant.0 c.args.order.now (rearranged_turn (first_turn c.requires.0.fit c.requires.2 c.requires.3 c.prepare.ensures) c.heapify.ensures.marks)).zones.marks _ ((let h : c.least-next.result < c.args.n + 2 = omega (arith, c.if-due-next.false, (c.loop-hoped.invariant.0 c.args.order.now (rearranged_turn (first_turn c.requires.0.fit c.requires.2 c.requires.3 c.prepare.ensures) c.heapify.ensures.marks)).zones.rest) in h)), (c.loop-hoped.invariant.0 c.args.order.now (rearranged_turn (first_turn c.requires.0.fit c.requires.2 c.requires.3 c.prepare.ensures) c.heapify.ensures.marks)).inv.keyed)

pub slice_bounds-ease-end : goal.slice_bounds-ease-end
slice_bounds-ease-end c = sym c.loop-hoped.invariant.2

pub ease-requires : goal.ease-requires
ease-requires c = record { sound = (c.requires.0, c.requires.1, c.loop-hoped.invariant.2); easing = rw c.from-s.ensures (easing (c.loop-hoped.invariant.0 c.args.order.now (rearranged_turn (first_turn c.requires.0.fit c.requires.2 c.requires.3 c.prepare.ensures) c.heapify.ensures.marks)) (heap_least (c.loop-hoped.invariant.0 c.args.order.now (rearranged_turn (first_turn c.requires.0.fit c.requires.2 c.requires.3 c.prepare.ensures) c.heapify.ensures.marks)) c.loop-hoped.invariant.1) c.least-next.ensures c.sooner.ensures c.if-sooner.false (omega (arith, c.if-due-next.false)) (λ q. c.if-s-first.false (c.from-s.ensures ∙ q)) c.swap-in-loop-hoped.ensures) }

pub loop-hoped-smaller : goal.loop-hoped-smaller
loop-hoped-smaller c = omega (arith, c.if-due-next.false)

pub loop-hoped-preserved : goal.loop-hoped-preserved
loop-hoped-preserved c = (
  λ bends t. settled_turn (c.loop-hoped.invariant.0 bends t) (heap_least (c.loop-hoped.invariant.0 c.args.order.now (rearranged_turn (first_turn c.requires.0.fit c.requires.2 c.requires.3 c.prepare.ensures) c.heapify.ensures.marks)) c.loop-hoped.invariant.1) c.least-next.ensures c.sooner.ensures c.if-sooner.false (omega (arith, c.if-due-next.false)) (λ q. c.if-s-first.false (c.from-s.ensures ∙ q)) c.swap-in-loop-hoped.ensures (rw c.from-s.ensures at c.ease.ensures.keys),
  settled_heap (c.loop-hoped.invariant.0 c.args.order.now (rearranged_turn (first_turn c.requires.0.fit c.requires.2 c.requires.3 c.prepare.ensures) c.heapify.ensures.marks)) (heap_least (c.loop-hoped.invariant.0 c.args.order.now (rearranged_turn (first_turn c.requires.0.fit c.requires.2 c.requires.3 c.prepare.ensures) c.heapify.ensures.marks)) c.loop-hoped.invariant.1) c.least-next.ensures c.sooner.ensures c.if-sooner.false (omega (arith, c.if-due-next.false)) (λ q. c.if-s-first.false (c.from-s.ensures ∙ q)) c.swap-in-loop-hoped.ensures (rw c.from-s.ensures at c.ease.ensures.keys) c.loop-hoped.invariant.1,
  c.ease.ensures.sized,
)
