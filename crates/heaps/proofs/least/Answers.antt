-- The loop keeps: `best` is the place of the least sum of those before j.
use Prim.Native.Nat.{◌<◌}
use native.Mathlib.Omega.{arith}
use Rattle.geometry.specs.Words.{word}
use Rattle.heaps.proofs.Sums.{best_none, best_kept, best_new, best_least}
use Rattle.heaps.proofs.least.Goals as goal
use Rattle.heaps.proofs.least.Goals.{then-whole-low, else-whole-low}

pub loop-j-init : goal.loop-j-init
loop-j-init c = best_none c.requires.from

pub bounds-order-j : goal.bounds-order-j
bounds-order-j c = omega (arith, c.requires.listed, c.loop-j-test.true)

pub overflow_cast-v : goal.overflow_cast-v
overflow_cast-v c =
    let h : word c.args.order.now c.loop-j.j < 240 = c.requires.marks c.loop-j.j c.loop-j.invariant.from c.loop-j-test.true in
    omega (arith, h)

pub offset_bounds-key-v : goal.offset_bounds-key-v
offset_bounds-key-v c =
    let h : word c.args.order.now c.loop-j.j < 240 = c.requires.marks c.loop-j.j c.loop-j.invariant.from c.loop-j-test.true in
    omega (arith, h)

pub bounds-key-v : goal.bounds-key-v
bounds-key-v c =
    let h : word c.args.order.now c.loop-j.j < 240 = c.requires.marks c.loop-j.j c.loop-j.invariant.from c.loop-j-test.true in
    omega (arith, h, c.requires.keyed)

pub offset_bounds-bounds-v : goal.offset_bounds-bounds-v
offset_bounds-bounds-v c =
    let h : word c.args.order.now c.loop-j.j < 240 = c.requires.marks c.loop-j.j c.loop-j.invariant.from c.loop-j-test.true in
    omega (arith, h)

pub bounds-bounds-v : goal.bounds-bounds-v
bounds-bounds-v c =
    let h : word c.args.order.now c.loop-j.j < 240 = c.requires.marks c.loop-j.j c.loop-j.invariant.from c.loop-j-test.true in
    omega (arith, h, c.requires.bounded)

pub overflow_add-whole : goal.overflow_add-whole
overflow_add-whole c = omega (arith, c.requires.small c.loop-j.j c.loop-j.invariant.from c.loop-j-test.true)

pub loop-j-preserved : goal.loop-j-preserved
loop-j-preserved c =
    elim c.if-whole-low.branch [
      | then-whole-low w ↦ rw (w.best-is, w.low-is) (best_new c.loop-j.invariant c.loop-j-test.true w.if-whole-low.true)
      | else-whole-low w ↦ rw (w.best-is, w.low-is) (best_kept c.loop-j.invariant c.loop-j-test.true w.if-whole-low.false)
    ]

pub returns : goal.returns
returns c = best_least c.loop-j-test.false c.loop-j.invariant
