-- The loop keeps: the marks have changed places, and are a heap below the places from i on.
use native.Mathlib.Omega.{arith}
use Rattle.heaps.proofs.Heaps.{rearranged_none, rearranged_then, heapable_rearranged, heap_none, heap_from}
use Rattle.heaps.proofs.heapify.Goals as goal

pub loop-i-init : goal.loop-i-init
loop-i-init c = (rearranged_none, heap_none c.args.n, omega arith)

pub sift-requires : goal.sift-requires
sift-requires c = (heapable_rearranged c.requires c.loop-i.invariant.0, omega (arith, c.loop-i.invariant.2), heap_from (omega arith) c.loop-i.invariant.1)

pub loop-i-preserved : goal.loop-i-preserved
loop-i-preserved c = (rearranged_then c.loop-i.invariant.0 c.sift.ensures.marks, c.sift.ensures.heap, omega (arith, c.loop-i.invariant.2))

pub shape_of-order : goal.shape_of-order
shape_of-order c = c.loop-i.invariant.0.sized

pub returns : goal.returns
returns c = record { heap = heap_from (omega (arith, c.loop-i-test.false)) c.loop-i.invariant.1; marks = c.loop-i.invariant.0 }
