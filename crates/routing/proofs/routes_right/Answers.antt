-- The loop keeps: the records of the runs below k are right.
use Prim.Native.Nat.{◌<◌}
use native.Mathlib.Omega.{arith}
use Rattle.routing.proofs.Written.{lent_length, upto_none}
use Rattle.routing.proofs.Checking.{right_next, routes_yes, routes_no}
use Rattle.routing.proofs.routes_right.Goals as goal

pub loop-k-init : goal.loop-k-init
loop-k-init c = (omega arith, upto_none _ _ _ c.requires.2)

pub route_right-requires : goal.route_right-requires
route_right-requires c =
    let l : c.loop-k.k < 24 = omega arith in
    record { fit = (c.requires.0, c.requires.1, l, lent_length _ _ c.requires.2 l); rows = (c.fill_rows.ensures, c.list_places.ensures) }

pub returns-then-not-route_right : goal.returns-then-not-route_right
returns-then-not-route_right c = let l : c.loop-k.k < 24 = omega arith in search routes_no

pub loop-k-preserved : goal.loop-k-preserved
loop-k-preserved c = (omega arith, search right_next)

pub returns : goal.returns
returns c = search routes_yes
