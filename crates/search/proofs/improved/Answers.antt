-- Each return is one law of Steps.
use Prim.Native.Nat.{◌+◌, ◌*◌, ◌<◌}
use native.Mathlib.Omega.{arith}
use Rattle.search.proofs.Steps.{lesser_near, lesser_dear, lesser_new, below_old}
use Rattle.search.proofs.improved.Goals as goal

pub returns-then-old-ks : goal.returns-then-old-ks
returns-then-old-ks c = search lesser_near

pub returns-then-dearer : goal.returns-then-dearer
returns-then-dearer c = lesser_dear _ _ _ _ _ _ _ c.if-old-ks.false c.squared-square.ensures.value c.dearer.ensures c.if-dearer.true

pub overflow_cast-result : goal.overflow_cast-result
overflow_cast-result c =
    let h : 256 * c.charge.result + 1 + c.args.by.key < c.args.old = omega (arith, c.charge.ensures, below_old _ _ _ _ c.if-old-ks.false c.dearer.ensures c.if-dearer.false) in
    omega (arith, h)

pub overflow_mul-result : goal.overflow_mul-result
overflow_mul-result c =
    let h : 256 * c.charge.result + 1 + c.args.by.key < c.args.old = omega (arith, c.charge.ensures, below_old _ _ _ _ c.if-old-ks.false c.dearer.ensures c.if-dearer.false) in
    omega (arith, h)

pub overflow_add-result : goal.overflow_add-result
overflow_add-result c =
    let h : 256 * c.charge.result + 1 + c.args.by.key < c.args.old = omega (arith, c.charge.ensures, below_old _ _ _ _ c.if-old-ks.false c.dearer.ensures c.if-dearer.false) in
    omega (arith, h)

pub overflow_add-result-2 : goal.overflow_add-result-2
overflow_add-result-2 c =
    let h : 256 * c.charge.result + 1 + c.args.by.key < c.args.old = omega (arith, c.charge.ensures, below_old _ _ _ _ c.if-old-ks.false c.dearer.ensures c.if-dearer.false) in
    omega (arith, h)

pub returns : goal.returns
returns c = rw c.charge.ensures (lesser_new _ _ _ _ _ _ _ c.if-old-ks.false c.squared-square.ensures.value c.dearer.ensures c.if-dearer.false)
