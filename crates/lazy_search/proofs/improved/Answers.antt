-- Each return is one law of Steps.
use Prim.Native.Nat.{◌+◌, ◌*◌, ◌<◌}
use native.Mathlib.Omega.{arith}
use Rattle.lists.proofs.Telling.{told, denied}
use Rattle.search.proofs.Steps.{cost_is, below_old}
use Rattle.lazy_search.proofs.Steps.{improved_near, improved_hidden, improved_dear, improved_new}
use Rattle.lazy_search.proofs.improved.Goals as goal

pub returns-then-old-ks : goal.returns-then-old-ks
returns-then-old-ks c = record { key = improved_near _ _ _ _ _ _ c.if-old-ks.true; sized = c.requires.sound.2 }

pub returns-then-dearer : goal.returns-then-dearer
returns-then-dearer c =
    let d = rw c.from-most.ensures at c.dearer.ensures in
    record { key = improved_dear _ _ _ _ _ _ _ _ c.if-old-ks.false (cost_is _ _ _ _ _ _ _ c.requires.sound.3 c.requires.relaxable.place c.figure_of-figure.ensures c.squared-square.ensures.value) d c.if-dearer.true; sized = c.requires.sound.2 }

pub returns-then-not-sees : goal.returns-then-not-sees
returns-then-not-sees c = record { key = improved_hidden _ _ _ _ _ _ (denied c.sees.ensures.tells c.if-not-sees.true-raw); sized = c.sees.ensures.sized }

-- the sum is below the old key
small : (c : goal.After-charge) → 256 * c.charge.result + 1 + c.args.ks < c.args.old
small c =
    let d = rw c.from-most.ensures at c.dearer.ensures in
    omega (arith, c.charge.ensures, below_old c.args.ks c.args.old _ _ c.if-old-ks.false d c.if-dearer.false)

pub overflow_cast-result : goal.overflow_cast-result
overflow_cast-result c = omega (arith, small c)

pub overflow_mul-result : goal.overflow_mul-result
overflow_mul-result c = omega (arith, small c)

pub overflow_add-result : goal.overflow_add-result
overflow_add-result c = omega (arith, small c)

pub overflow_add-result-2 : goal.overflow_add-result-2
overflow_add-result-2 c = omega (arith, small c)

pub returns : goal.returns
returns c =
    let d = rw c.from-most.ensures at c.dearer.ensures in
    record { key = rw c.charge.ensures (improved_new _ _ _ _ _ _ _ _ c.requires.relaxable.itself c.if-old-ks.false (told c.sees.ensures.tells c.if-not-sees.false-raw) (cost_is _ _ _ _ _ _ _ c.requires.sound.3 c.requires.relaxable.place c.figure_of-figure.ensures c.squared-square.ensures.value) d c.if-dearer.false); sized = c.sees.ensures.sized }
