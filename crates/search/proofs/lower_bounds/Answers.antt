-- The loop keeps: the bounds of the first j of the list are written.
use mathlib.Core.Path.{◌≡◌, sym, ◌∙◌}
use Prim.Native.Nat.{◌<◌}
use native.Mathlib.Omega.{arith}
use borrow.Author.Rules.{rules}
use Rattle.geometry.specs.Words.{word}
use Rattle.search.proofs.LowerBounds.{bound_is, looked_none, looked_next}
use Rattle.search.proofs.lower_bounds.Goals as goal

pub loop-j-init : goal.loop-j-init
loop-j-init c = (omega arith, looked_none _ _ _ c.requires.listed.2)

pub overflow_cast-v : goal.overflow_cast-v
overflow_cast-v c =
    let h : word c.args.waiting.now c.loop-j.j < 240 = c.requires.listed.0.marks c.loop-j.j c.loop-j-test.true in
    omega (arith, h)

pub place_of-requires : goal.place_of-requires
place_of-requires c = (search rules, search rules, (let h : word c.args.waiting.now c.loop-j.j < 240 = c.requires.listed.0.marks c.loop-j.j c.loop-j-test.true in h))

pub offset_bounds-bounds-v : goal.offset_bounds-bounds-v
offset_bounds-bounds-v c =
    let h : word c.args.waiting.now c.loop-j.j < 240 = c.requires.listed.0.marks c.loop-j.j c.loop-j-test.true in
    omega (arith, h)

pub bounds-bounds-v : goal.bounds-bounds-v
bounds-bounds-v c =
    let h : word c.args.waiting.now c.loop-j.j < 240 = c.requires.listed.0.marks c.loop-j.j c.loop-j-test.true in
    omega (arith, h, c.loop-j.invariant.1.sized)

pub loop-j-preserved : goal.loop-j-preserved
loop-j-preserved c = (omega arith, looked_next _ _ _ _ _ ((let h : word c.args.waiting.now c.loop-j.j < 240 = c.requires.listed.0.marks c.loop-j.j c.loop-j-test.true in h)) c.loop-j.invariant.1 (bound_is _ _ _ _ _ _ c.place_of-to.ensures c.place_of.ensures c.at_least.ensures.value))

pub shape_of-bounds : goal.shape_of-bounds
shape_of-bounds c = c.loop-j.invariant.1.sized ∙ sym c.requires.listed.2

pub returns : goal.returns
returns c = let q : c.loop-j.j ≡ c.args.n = omega arith in rw q at c.loop-j.invariant.1
