use Prim.Native.Nat.{◌+◌, ◌*◌, ◌<◌}
use native.Mathlib.Omega.{arith}
use Rattle.geometry.specs.Words.{word}
use Rattle.heaps.proofs.Heaps.{only_child, first_child, second_child}
use Rattle.heaps.proofs.lesser_child.Goals as goal

pub returns-then-n-c : goal.returns-then-n-c
returns-then-n-c c = only_child c.requires.1 c.if-n-c.true

pub bounds-order-c : goal.bounds-order-c
bounds-order-c c = omega (arith, c.requires.0.sums.listed, c.requires.1)

pub overflow_cast-u : goal.overflow_cast-u
overflow_cast-u c =
    let h : word c.args.order.now (2 * c.args.i + 1) < 240 = c.requires.0.sums.marks (2 * c.args.i + 1) (omega arith) c.requires.1 in
    omega (arith, h)

pub bounds-order-c-2 : goal.bounds-order-c-2
bounds-order-c-2 c = omega (arith, c.requires.0.sums.listed, c.if-n-c.false)

pub overflow_cast-v : goal.overflow_cast-v
overflow_cast-v c =
    let h : word c.args.order.now (2 * c.args.i + 1 + 1) < 240 = c.requires.0.sums.marks (2 * c.args.i + 1 + 1) (omega arith) c.if-n-c.false in
    omega (arith, h)

pub offset_bounds-key-v : goal.offset_bounds-key-v
offset_bounds-key-v c =
    let h : word c.args.order.now (2 * c.args.i + 1 + 1) < 240 = c.requires.0.sums.marks (2 * c.args.i + 1 + 1) (omega arith) c.if-n-c.false in
    omega (arith, h)

pub bounds-key-v : goal.bounds-key-v
bounds-key-v c =
    let h : word c.args.order.now (2 * c.args.i + 1 + 1) < 240 = c.requires.0.sums.marks (2 * c.args.i + 1 + 1) (omega arith) c.if-n-c.false in
    omega (arith, h, c.requires.0.sums.keyed)

pub offset_bounds-bounds-v : goal.offset_bounds-bounds-v
offset_bounds-bounds-v c =
    let h : word c.args.order.now (2 * c.args.i + 1 + 1) < 240 = c.requires.0.sums.marks (2 * c.args.i + 1 + 1) (omega arith) c.if-n-c.false in
    omega (arith, h)

pub bounds-bounds-v : goal.bounds-bounds-v
bounds-bounds-v c =
    let h : word c.args.order.now (2 * c.args.i + 1 + 1) < 240 = c.requires.0.sums.marks (2 * c.args.i + 1 + 1) (omega arith) c.if-n-c.false in
    omega (arith, h, c.requires.0.sums.bounded)

pub overflow_add-key : goal.overflow_add-key
overflow_add-key c = omega (arith, c.requires.0.sums.small (2 * c.args.i + 1 + 1) (omega arith) c.if-n-c.false)

pub offset_bounds-key-u : goal.offset_bounds-key-u
offset_bounds-key-u c =
    let h : word c.args.order.now (2 * c.args.i + 1) < 240 = c.requires.0.sums.marks (2 * c.args.i + 1) (omega arith) c.requires.1 in
    omega (arith, h)

pub bounds-key-u : goal.bounds-key-u
bounds-key-u c =
    let h : word c.args.order.now (2 * c.args.i + 1) < 240 = c.requires.0.sums.marks (2 * c.args.i + 1) (omega arith) c.requires.1 in
    omega (arith, h, c.requires.0.sums.keyed)

pub offset_bounds-bounds-u : goal.offset_bounds-bounds-u
offset_bounds-bounds-u c =
    let h : word c.args.order.now (2 * c.args.i + 1) < 240 = c.requires.0.sums.marks (2 * c.args.i + 1) (omega arith) c.requires.1 in
    omega (arith, h)

pub bounds-bounds-u : goal.bounds-bounds-u
bounds-bounds-u c =
    let h : word c.args.order.now (2 * c.args.i + 1) < 240 = c.requires.0.sums.marks (2 * c.args.i + 1) (omega arith) c.requires.1 in
    omega (arith, h, c.requires.0.sums.bounded)

pub overflow_add-key-2 : goal.overflow_add-key-2
overflow_add-key-2 c = omega (arith, c.requires.0.sums.small (2 * c.args.i + 1) (omega arith) c.requires.1)

pub returns-then-key-v : goal.returns-then-key-v
returns-then-key-v c = second_child c.if-n-c.false c.if-key-v.true

pub returns : goal.returns
returns c = first_child c.if-n-c.false c.if-key-v.false
