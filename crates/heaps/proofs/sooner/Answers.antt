use Prim.Native.Nat.{◌<◌}
use native.Mathlib.Omega.{arith}
use Rattle.geometry.specs.Words.{word}
use Rattle.heaps.proofs.Sums.{sooner_none, sooner_only, sooner_less}
use Rattle.heaps.proofs.sooner.Goals as goal

pub returns-then-hoped-i : goal.returns-then-hoped-i
returns-then-hoped-i c = sooner_none c.if-hoped-i.true

pub returns-then-waiting-j : goal.returns-then-waiting-j
returns-then-waiting-j c = sooner_only (omega (arith, c.if-hoped-i.false)) c.if-waiting-j.true

pub bounds-order-i : goal.bounds-order-i
bounds-order-i c = omega (arith, c.requires.0.listed, c.if-hoped-i.false)

pub overflow_cast-u : goal.overflow_cast-u
overflow_cast-u c =
    let h : word c.args.order.now c.args.i < 240 = c.requires.0.marks c.args.i (omega arith) (omega (arith, c.if-hoped-i.false)) in
    omega (arith, h)

pub bounds-order-j : goal.bounds-order-j
bounds-order-j c = omega (arith, c.requires.1.listed, c.if-waiting-j.false)

pub overflow_cast-v : goal.overflow_cast-v
overflow_cast-v c =
    let h : word c.args.order.now c.args.j < 240 = c.requires.1.marks c.args.j c.requires.2 (omega (arith, c.if-waiting-j.false)) in
    omega (arith, h)

pub offset_bounds-key-u : goal.offset_bounds-key-u
offset_bounds-key-u c =
    let h : word c.args.order.now c.args.i < 240 = c.requires.0.marks c.args.i (omega arith) (omega (arith, c.if-hoped-i.false)) in
    omega (arith, h)

pub bounds-key-u : goal.bounds-key-u
bounds-key-u c =
    let h : word c.args.order.now c.args.i < 240 = c.requires.0.marks c.args.i (omega arith) (omega (arith, c.if-hoped-i.false)) in
    omega (arith, h, c.requires.0.keyed)

pub offset_bounds-bounds-u : goal.offset_bounds-bounds-u
offset_bounds-bounds-u c =
    let h : word c.args.order.now c.args.i < 240 = c.requires.0.marks c.args.i (omega arith) (omega (arith, c.if-hoped-i.false)) in
    omega (arith, h)

pub bounds-bounds-u : goal.bounds-bounds-u
bounds-bounds-u c =
    let h : word c.args.order.now c.args.i < 240 = c.requires.0.marks c.args.i (omega arith) (omega (arith, c.if-hoped-i.false)) in
    omega (arith, h, c.requires.0.bounded)

pub overflow_add-result : goal.overflow_add-result
overflow_add-result c = omega (arith, c.requires.0.small c.args.i (omega arith) (omega (arith, c.if-hoped-i.false)))

pub offset_bounds-key-v : goal.offset_bounds-key-v
offset_bounds-key-v c =
    let h : word c.args.order.now c.args.j < 240 = c.requires.1.marks c.args.j c.requires.2 (omega (arith, c.if-waiting-j.false)) in
    omega (arith, h)

pub bounds-key-v : goal.bounds-key-v
bounds-key-v c =
    let h : word c.args.order.now c.args.j < 240 = c.requires.1.marks c.args.j c.requires.2 (omega (arith, c.if-waiting-j.false)) in
    omega (arith, h, c.requires.0.keyed)

pub offset_bounds-bounds-v : goal.offset_bounds-bounds-v
offset_bounds-bounds-v c =
    let h : word c.args.order.now c.args.j < 240 = c.requires.1.marks c.args.j c.requires.2 (omega (arith, c.if-waiting-j.false)) in
    omega (arith, h)

pub bounds-bounds-v : goal.bounds-bounds-v
bounds-bounds-v c =
    let h : word c.args.order.now c.args.j < 240 = c.requires.1.marks c.args.j c.requires.2 (omega (arith, c.if-waiting-j.false)) in
    omega (arith, h, c.requires.0.bounded)

pub overflow_add-result-2 : goal.overflow_add-result-2
overflow_add-result-2 c = omega (arith, c.requires.1.small c.args.j c.requires.2 (omega (arith, c.if-waiting-j.false)))

pub returns : goal.returns
returns c = sooner_less (omega (arith, c.if-hoped-i.false)) (omega (arith, c.if-waiting-j.false))
