use Rattle.lines.proofs.Collecting.{collecting_none, collecting_rising, collecting_more, collecting_past, firsted, firsted_rising, collected}
use native.Mathlib.Omega.{arith}
use borrow.Author.Rules.{rules}
use Rattle.lines.proofs.lines_of.Goals as goal
use Rattle.lines.proofs.lines_of.Goals.{then-is_corner, else-is_corner}

pub loop-i-init : goal.loop-i-init
loop-i-init c = collecting_none _ _ _ (search rules)

pub add_mark-n-requires-clause-n_in_bounds : goal.add_mark-n-requires-clause-n_in_bounds
add_mark-n-requires-clause-n_in_bounds c = (omega (arith, c.loop-i.invariant.few, c.loop-i.invariant.sized), search collecting_rising)

pub loop-i-preserved : goal.loop-i-preserved
loop-i-preserved c =
    elim c.if-is_corner.branch [
      | then-is_corner w ↦ rw (w.list-is, w.n-is) (collecting_more _ _ _ _ _ c.loop-i.invariant _ _ _ c.is_corner.ensures w.if-is_corner.true w.add_mark-n.ensures)
      | else-is_corner w ↦ rw (w.list-is, w.n-is) (collecting_past _ _ _ _ _ c.loop-i.invariant _ c.is_corner.ensures w.if-is_corner.false)
    ]

pub add_mark-n-requires-2-clause-n_in_bounds : goal.add_mark-n-requires-2-clause-n_in_bounds
add_mark-n-requires-2-clause-n_in_bounds c = (omega (arith, c.loop-i.auto.i-end, c.loop-i.invariant.few, c.loop-i.invariant.sized), search collecting_rising)

pub add_mark-requires-clause-n_in_bounds : goal.add_mark-requires-clause-n_in_bounds
add_mark-requires-clause-n_in_bounds c =
    let f = firsted _ _ _ _ _ _ _ _ c.loop-i.invariant (omega (arith, c.loop-i.auto.i-end)) (omega (arith, c.loop-i-test.false)) c.add_mark-n-2.ensures in
    (omega (arith, f.few, f.sized), firsted_rising _ _ _ _ _ f)

pub returns : goal.returns
returns c =
    let f = firsted _ _ _ _ _ _ _ _ c.loop-i.invariant (omega (arith, c.loop-i.auto.i-end)) (omega (arith, c.loop-i-test.false)) c.add_mark-n-2.ensures in
    collected _ _ _ _ _ _ _ f c.add_mark.ensures
