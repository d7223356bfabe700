-- The loop keeps: the runs below m are priced.
use mathlib.Core.Path.{sym, ◌∙◌}
use Prim.Native.Nat.{◌<◌}
use native.Mathlib.Omega.{arith}
use lib.ListN.{length-set}
use Rattle.run_prices.proofs.Filling.{priced_none, priced_next, priced_all}
use Rattle.run_prices.proofs.price_runs.Goals as goal

pub loop-m-init : goal.loop-m-init
loop-m-init c = (omega arith, priced_none _ _ c.requires.2)

pub run_price-p-requires : goal.run_price-p-requires
run_price-p-requires c = record { fit = (c.requires.0, c.mark_near.ensures, omega arith); places = (c.list_places.ensures, c.requires.1) }

pub bounds-quote-m : goal.bounds-quote-m
bounds-quote-m c = omega (arith, c.loop-m.invariant.1.sized)

pub bounds-quote-m-in-loop-m : goal.bounds-quote-m-in-loop-m
bounds-quote-m-in-loop-m c = simp length-set (omega (arith, c.loop-m.invariant.1.sized))

pub loop-m-preserved : goal.loop-m-preserved
loop-m-preserved c =
    let l = c.loop-m in
    let h : l.m < 24 = omega arith in
    (omega arith, priced_next _ _ _ _ _ h l.invariant.1 c.run_price-p.ensures)

pub shape_of-quote : goal.shape_of-quote
shape_of-quote c = c.loop-m.invariant.1.sized ∙ sym c.requires.2

pub returns : goal.returns
returns c = priced_all _ _ _ c.loop-m-test.false c.loop-m.invariant.1
