-- The loop keeps: of the corners that are not in `rest`, those in r are the ones of which the straight has no place of two blocks.
use Prim.Native.Nat.{◌+◌, ◌*◌}
use native.Mathlib.Omega.{arith}
use Rattle.code_table.proofs.Rows.{mark_in_range}
use Rattle.clear_rows.proofs.Sifting.{sifting_whole, sifting_next, sifting_all}
use Rattle.clear_rows.proofs.Sparing.{touched_every, shared_told}
use Rattle.clear_rows.proofs.unshared_word.Goals as goal

pub loop-rest-init : goal.loop-rest-init
loop-rest-init c = sifting_whole _ _ _

pub overflow_cast-i : goal.overflow_cast-i
overflow_cast-i c = omega (arith, c.lowest-i.ensures.within)

pub overflow_add-q : goal.overflow_add-q
overflow_add-q c = omega (arith, c.lowest-i.ensures.within)

pub shared_among-shared-requires : goal.shared_among-shared-requires
shared_among-shared-requires c =
    let l = c.lowest-i.ensures.within in
    record { blocks = (c.requires.0, c.requires.1); touched = (omega arith, touched_every _ _ _ _); ends = (mark_in_range _ _ _ _ c.at-a.ensures c.requires.2 (omega arith), mark_in_range _ _ _ _ c.at-b.ensures c.requires.2 c.requires.3) }

pub without_if-r-requires : goal.without_if-r-requires
without_if-r-requires c = c.lowest-i.ensures.within

pub loop-rest-smaller : goal.loop-rest-smaller
loop-rest-smaller c = c.without_lowest-rest.ensures.fewer

pub loop-rest-preserved : goal.loop-rest-preserved
loop-rest-preserved c =
    let s = c.args in
    sifting_next c.loop-rest.invariant c.lowest-i.ensures c.without_lowest-rest.ensures
    (shared_told _ s.places.now.east s.places.now.north s.v (64 * s.q + c.lowest-i.result) _ _ _ c.at-a.ensures c.at-b.ensures c.shared_among-shared.ensures) c.without_if-r.ensures

pub returns : goal.returns
returns c = sifting_all c.loop-rest.invariant (omega arith)
