-- The loop keeps: the first q words are right.
use native.Mathlib.Omega.{arith}
use Rattle.corner_words.proofs.Marking.{corners_none, corners_next}
use Rattle.corner_words.proofs.mark_corners.Goals as goal

pub loop-q-init : goal.loop-q-init
loop-q-init c = search corners_none

pub loop-q-preserved : goal.loop-q-preserved
loop-q-preserved c = corners_next _ _ _ _ c.loop-q.invariant (omega (arith, c.loop-q.invariant.sized)) c.corner_word.ensures

pub returns : goal.returns
returns c = let x = c.loop-q.invariant in record { sized = x.sized; each = λ k l. x.each k (omega (arith, x.sized)) }
