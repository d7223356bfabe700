-- The loop keeps: the first n of the list are the corners below i.
use mathlib.Core.Path.{sym, ◌∙◌}
use native.Mathlib.Omega.{arith}
use Rattle.lazy_routes.proofs.Corners.{listed_none, listed_more, listed_passed, listed_all}
use Rattle.lazy_routes.proofs.list_corners.Goals as goal
use Rattle.lazy_routes.proofs.list_corners.Goals.{then-is_corner, else-is_corner}

pub loop-i-init : goal.loop-i-init
loop-i-init c = listed_none _ _ c.requires.1

pub loop-i-preserved : goal.loop-i-preserved
loop-i-preserved c =
    let b = c.loop-i.invariant in
    elim c.if-is_corner.branch [
      | then-is_corner w ↦ rw (w.order-is, w.n-is) (listed_more _ _ _ _ b (omega arith) (sym c.is_corner.ensures ∙ w.if-is_corner.true))
      | else-is_corner w ↦ rw (w.order-is, w.n-is) (listed_passed _ _ _ _ b (sym c.is_corner.ensures ∙ w.if-is_corner.false))
    ]

pub returns : goal.returns
returns c = listed_all _ _ _ _ c.loop-i.invariant (omega arith)
