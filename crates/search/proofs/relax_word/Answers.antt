-- The loop keeps: the marks of the word whose bits are gone from `rest` are relaxed.
use mathlib.Core.Path.{sym, ◌∙◌}
use Prim.Native.Nat.{◌+◌, ◌<◌}
use native.Mathlib.Omega.{arith}
use Rattle.search.specs.inner.Parts.{Here}
use Rattle.search.proofs.Words.{passing_none, passing_next, passing_all, next_marked}
use Rattle.search.proofs.relax_word.Goals as goal

pub loop-rest-init : goal.loop-rest-init
loop-rest-init c = passing_none c.requires.parted.0

pub overflow_cast-v : goal.overflow_cast-v
overflow_cast-v c = omega (arith, c.lowest.ensures.within)

pub overflow_add-v : goal.overflow_add-v
overflow_add-v c = omega (arith, ((let h : (c.args.base + c.lowest.result < 240) × Here c.args.list.now.order c.args.list.now.spot (c.args.base + c.lowest.result) = c.requires.parted.1 _ (next_marked c.loop-rest.invariant c.lowest.ensures) in h)).0)

pub relax_mark-low-requires : goal.relax_mark-low-requires
relax_mark-low-requires c =
    let p = c.loop-rest.invariant.passed in
    let h = (let h : (c.args.base + c.lowest.result < 240) × Here c.args.list.now.order c.args.list.now.spot (c.args.base + c.lowest.result) = c.requires.parted.1 _ (next_marked c.loop-rest.invariant c.lowest.ensures) in h) in
    record { places_len = (c.requires.places_len.0, c.requires.places_len.1, h.0); parted = (p.parted, p.sorted.here _ h.1) }

pub loop-rest-smaller : goal.loop-rest-smaller
loop-rest-smaller c = c.without_lowest-rest.ensures.fewer

pub loop-rest-preserved : goal.loop-rest-preserved
loop-rest-preserved c = passing_next c.loop-rest.invariant c.lowest.ensures c.relax_mark-low.ensures c.without_lowest-rest.ensures

pub shape_of-key : goal.shape_of-key
shape_of-key c = c.loop-rest.invariant.passed.parted.keyed ∙ sym c.requires.parted.0.keyed

pub returns : goal.returns
returns c = passing_all c.loop-rest.invariant (omega arith)
