-- The loop keeps: the first n of the list are the corners below i.
use mathlib.Core.Path.{◌≡◌, sym, ◌∙◌}
use Prim.Native.Nat.{◌<◌}
use native.Mathlib.Omega.{arith}
use borrow.Author.Rules.{rules}
use Rattle.search.proofs.Steps.{corners_none, corners_listed, corners_passed}
use Rattle.search.proofs.open_corners.Goals as goal
use Rattle.search.proofs.open_corners.Goals.{then-is_corner, else-is_corner}

pub loop-i-init : goal.loop-i-init
loop-i-init c = (corners_none _ _ _ (search rules) (search rules), search rules, search rules)

pub loop-i-preserved : goal.loop-i-preserved
loop-i-preserved c =
    let b = c.loop-i.invariant.0 in
    let s = c.loop-i.invariant.1 in
    let k = c.loop-i.invariant.2 in
    let l : c.loop-i.i < 192 = omega arith in
    elim c.if-is_corner.branch [
      | then-is_corner w ↦ rw (w.list-is, w.n-is) (corners_listed b l (sym c.is_corner.ensures ∙ w.if-is_corner.true), s, k)
      | else-is_corner w ↦ rw (w.list-is, w.n-is) (corners_passed b (sym c.is_corner.ensures ∙ w.if-is_corner.false), s, k)
    ]

pub returns : goal.returns
returns c = let q : c.loop-i.i ≡ 192 = omega arith in record { corners = rw q at c.loop-i.invariant.0; sums = c.loop-i.invariant.1; kept = c.loop-i.invariant.2 }
