-- The loop keeps: `sum` is the least of those before j, and whole fours are left.
use mathlib.Core.Path.{◌≡◌}
use Prim.Native.Nat.{◌+◌, ◌≤◌}
use native.Mathlib.Omega.{arith}
use Rattle.heaps.proofs.Sums.{low_none, four_kept, four_new}
use Rattle.heaps.proofs.lowest_by_fours.Goals as goal
use Rattle.heaps.proofs.lowest_by_fours.Goals.{then-four-sum, else-four-sum}

pub loop-j-init : goal.loop-j-init
loop-j-init c = (omega arith, c.requires.1, c.requires.3, low_none (omega (arith, c.requires.1, c.requires.2)))

pub least_four-four-requires : goal.least_four-four-requires
least_four-four-requires c =
    let h : c.loop-j.j + 4 ≤ c.args.stop = omega (arith, c.loop-j-test.true, c.loop-j.invariant.2) in
    omega (arith, h, c.requires.0, c.requires.2)

pub loop-j-preserved : goal.loop-j-preserved
loop-j-preserved c =
    let l = c.loop-j.invariant in
    let f : c.loop-j.j + 4 ≤ c.args.stop = omega (arith, c.loop-j-test.true, c.loop-j.invariant.2) in (
      omega (arith, l.0),
      f,
      omega (arith, f, l.2),
      elim c.if-four-sum.branch [
        | then-four-sum w ↦ rw (w.sum-is, w.from-is) (four_new l.3 c.least_four-four.ensures l.0 (omega (arith, f, c.requires.2)) w.if-four-sum.true)
        | else-four-sum w ↦ rw (w.sum-is, w.from-is) (four_kept l.3 c.least_four-four.ensures w.if-four-sum.false)
      ],
    )

pub returns : goal.returns
returns c = let q : c.loop-j.j ≡ c.args.stop = omega (arith, c.loop-j.invariant.1, c.loop-j-test.false) in rw q at c.loop-j.invariant.3
