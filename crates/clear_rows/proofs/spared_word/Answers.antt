-- The loop keeps: of the corners that are not in `rest`, those in r are the ones to which the block does not hide the straight.
use mathlib.Core.Path.{refl}
use native.Mathlib.Omega.{arith}
use Rattle.clear_rows.proofs.Sifting.{kept_none, sifting_next, sifting_all}
use Rattle.clear_rows.proofs.Sparing.{codes_from, hidden_told, sifting_open}
use Rattle.clear_rows.proofs.spared_word.Goals as goal

pub returns-then-w-eq0 : goal.returns-then-w-eq0
returns-then-w-eq0 c = search kept_none

pub loop-rest-init : goal.loop-rest-init
loop-rest-init c = search sifting_open

pub overflow_cast-u : goal.overflow_cast-u
overflow_cast-u c = omega (arith, c.lowest-i.ensures.within)

pub overflow_add-u : goal.overflow_add-u
overflow_add-u c = omega (arith, c.lowest-i.ensures.within)

pub meets-met-requires : goal.meets-met-requires
meets-met-requires c =
    codes_from _ _ _ _ c.requires.0 _ _ (omega (arith, c.lowest-i.ensures.within, c.requires.3)) c.requires.2 _ _ c.at-a.ensures c.at-b.ensures _ refl

pub loop-rest-smaller : goal.loop-rest-smaller
loop-rest-smaller c = c.without_lowest-rest.ensures.fewer

pub loop-rest-preserved : goal.loop-rest-preserved
loop-rest-preserved c =
    sifting_next c.loop-rest.invariant c.lowest-i.ensures c.without_lowest-rest.ensures
    (hidden_told _ _ _ _ c.requires.0 _ _ (omega (arith, c.lowest-i.ensures.within, c.requires.3)) c.requires.2 _ _ c.at-a.ensures c.at-b.ensures _ c.meets-met.ensures)
    (rw c.eq.ensures at c.without_if-r.ensures)

pub returns : goal.returns
returns c = sifting_all c.loop-rest.invariant (omega arith)
