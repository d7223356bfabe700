-- The loop keeps: `sum` is the least of those before j.
use mathlib.Core.Path.{◌≡◌}
use native.Mathlib.Omega.{arith}
use Rattle.heaps.proofs.Sums.{one_kept, one_new}
use Rattle.heaps.proofs.lowest.Goals as goal
use Rattle.heaps.proofs.lowest.Goals.{then-one-sum, else-one-sum}

pub loop-j-init : goal.loop-j-init
loop-j-init c = (c.requires.1, c.requires.2, c.lowest_by_fours-low.ensures)

pub bounds-sums-j : goal.bounds-sums-j
bounds-sums-j c = omega (arith, c.loop-j-test.true, c.requires.0)

pub loop-j-preserved : goal.loop-j-preserved
loop-j-preserved c =
    let l = c.loop-j.invariant in
    let t = c.loop-j-test.true in (
      omega (arith, l.0),
      omega (arith, t),
      elim c.if-one-sum.branch [
        | then-one-sum w ↦ rw (w.sum-is, w.from-is) (one_new l.2 l.0 t w.if-one-sum.true)
        | else-one-sum w ↦ rw (w.sum-is, w.from-is) (one_kept l.2 w.if-one-sum.false)
      ],
    )

pub returns : goal.returns
returns c = let q : c.loop-j.j ≡ c.args.hi = omega (arith, c.loop-j.invariant.1, c.loop-j-test.false) in rw q at c.loop-j.invariant.2
