-- The loop keeps: the least sum stands at none of the places from where it may on and before j.
use mathlib.Core.Path.{◌≡◌, ap, ◌∙◌}
use native.Mathlib.Decide.{dec_lt}
use native.Mathlib.Omega.{arith}
use Rattle.geometry.specs.Words.{word}
use Rattle.heaps.proofs.Sums.{least_here, least_none, least_found}
use Rattle.heaps.proofs.least_sum.Goals as goal

pub lowest-low-requires : goal.lowest-low-requires
lowest-low-requires c = (c.requires.0, omega arith, omega (arith, c.requires.1), omega arith)

pub returns-then-low : goal.returns-then-low
returns-then-low c = least_none c.lowest-low.ensures c.if-low.true

pub loop-j-init : goal.loop-j-init
loop-j-init c = (omega arith, λ k a b. absurd (omega arith))

pub bounds-sums-j : goal.bounds-sums-j
bounds-sums-j c = omega (arith, c.loop-j-test.true, c.requires.0)

pub returns-then-sums-j : goal.returns-then-sums-j
returns-then-sums-j c = least_here c.lowest-low.ensures _ c.if-low.false c.loop-j.invariant.0 c.loop-j-test.true c.if-sums-j.true

pub loop-j-preserved : goal.loop-j-preserved
loop-j-preserved c =
    let l = c.loop-j in
    let w = c.args.sums.now in
    (omega (arith, l.invariant.0), λ k a b e. elim (dec_lt k l.j) [ yes g ↦ l.invariant.1 k a g e | no g ↦ let q : l.j ≡ k = omega arith in c.if-sums-j.false (ap (word w) q ∙ e) ])

pub returns : goal.returns
returns c = least_found c.lowest-low.ensures c.if-low.false (λ k a b. c.loop-j.invariant.1 k a (omega (arith, b, c.loop-j-test.false)))
