-- The loop keeps: the records of the runs below m are right.
use mathlib.Core.Path.{sym, ◌∙◌}
use Prim.Native.Nat.{◌<◌}
use native.Mathlib.Omega.{arith}
use Rattle.routing.proofs.Written.{lent_length, upto_none, upto_next, upto_all}
use Rattle.routing.proofs.all_routes.Goals as goal

pub loop-m-init : goal.loop-m-init
loop-m-init c = (omega arith, upto_none _ _ _ c.requires.2)

pub offset_bounds-routes-at : goal.offset_bounds-routes-at
offset_bounds-routes-at c = omega (arith, c.loop-m.invariant.1.sized)

pub slice_bounds-route-end-in-loop-m-2 : goal.slice_bounds-route-end-in-loop-m-2
slice_bounds-route-end-in-loop-m-2 c = omega (arith, c.loop-m.invariant.1.sized)

pub route-requires : goal.route-requires
route-requires c =
    let l : c.loop-m.m < 24 = omega arith in
    record { fit = (c.requires.0, c.requires.1, l, lent_length _ _ c.loop-m.invariant.1.sized l); rows = (c.fill_rows.ensures, c.list_places.ensures) }

pub loop-m-preserved : goal.loop-m-preserved
loop-m-preserved c =
    let u = c.loop-m.invariant.1 in
    let l : c.loop-m.m < 24 = omega arith in
    (omega arith, upto_next _ _ _ _ _ l u (c.route.auto.part ∙ lent_length _ _ u.sized l) c.route.ensures)

pub shape_of-routes : goal.shape_of-routes
shape_of-routes c = c.loop-m.invariant.1.sized ∙ sym c.requires.2

pub returns : goal.returns
returns c = upto_all _ _ _ _ c.loop-m-test.false c.loop-m.invariant.1
