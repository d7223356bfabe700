use native.Mathlib.Omega.{arith}
use Rattle.corner_words.proofs.Opening.{opened_none, opened_next, side_below}
use Rattle.corner_words.proofs.open_word.Goals as goal

pub loop-rest-init : goal.loop-rest-init
loop-rest-init c = rw c.from-rest.ensures (opened_none _ _ _ _ (omega arith))

pub bounds-lefts-b : goal.bounds-lefts-b
bounds-lefts-b c = omega (arith, side_below _ _ _ _ _ _ c.loop-rest.invariant _ c.lowest-b.ensures)

pub loop-rest-preserved : goal.loop-rest-preserved
loop-rest-preserved c =
    opened_next _ _ _ _ _ _ c.loop-rest.invariant _ c.lowest-b.ensures _ _ c.both-r.ensures c.without_lowest-rest.ensures

pub returns : goal.returns
returns c = c.loop-rest.invariant.opened
