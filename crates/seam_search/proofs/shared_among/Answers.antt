-- The loop keeps: no block whose bit is passed shares a point with a later one.
use Prim.Native.Nat.{◌<◌}
use native.Mathlib.Omega.{arith}
use Rattle.bits.proofs.Counting.{bit_low}
use Rattle.seam_search.specs.inner.Masks.{Later}
use Rattle.seam_search.proofs.Walking.{walked_whole, walked_set, walked_next, later_left, none_after, among_yes, among_no}
use Rattle.seam_search.proofs.shared_among.Goals as goal

pub loop-rest-init : goal.loop-rest-init
loop-rest-init c = walked_whole

pub overflow_cast-p : goal.overflow_cast-p
overflow_cast-p c = omega (arith, c.lowest-p.ensures.within)

pub offset_bounds-masks-p : goal.offset_bounds-masks-p
offset_bounds-masks-p c =
    let h : c.lowest-p.result < 24 = bit_low 24 _ _ c.requires.touched.0 (walked_set c.loop-rest.invariant c.lowest-p.ensures) in
    omega (arith, h)

pub bounds-masks-p : goal.bounds-masks-p
bounds-masks-p c =
    let h : c.lowest-p.result < 24 = bit_low 24 _ _ c.requires.touched.0 (walked_set c.loop-rest.invariant c.lowest-p.ensures) in
    omega (arith, h, c.requires.blocks.1.sized)

pub shared_after-requires : goal.shared_after-requires
shared_after-requires c = record { blocks = (c.requires.blocks.0, (let h : c.lowest-p.result < 24 = bit_low 24 _ _ c.requires.touched.0 (walked_set c.loop-rest.invariant c.lowest-p.ensures) in h)); touched = (let h : Later c.lowest-p.result c.without_lowest-rest.result = later_left c.loop-rest.invariant c.lowest-p.ensures c.without_lowest-rest.ensures c.requires.touched.0 in h); ends = c.requires.ends }

pub returns-then-shared_after : goal.returns-then-shared_after
returns-then-shared_after c =
    among_yes ((let h : c.lowest-p.result < 24 = bit_low 24 _ _ c.requires.touched.0 (walked_set c.loop-rest.invariant c.lowest-p.ensures) in h)) ((let h : Later c.lowest-p.result c.without_lowest-rest.result = later_left c.loop-rest.invariant c.lowest-p.ensures c.without_lowest-rest.ensures c.requires.touched.0 in h)) (c.shared_after.ensures.yes' c.if-shared_after.true)

pub loop-rest-smaller : goal.loop-rest-smaller
loop-rest-smaller c = c.without_lowest-rest.ensures.fewer

pub loop-rest-preserved : goal.loop-rest-preserved
loop-rest-preserved c =
    let w = c.loop-rest.invariant in
    walked_next w c.lowest-p.ensures c.without_lowest-rest.ensures
    (none_after w c.lowest-p.ensures c.without_lowest-rest.ensures (c.shared_after.ensures.no' c.if-shared_after.false))

pub returns : goal.returns
returns c =
    among_no c.requires.blocks.1 c.requires.touched.1 c.loop-rest.invariant (omega arith)
