-- The loop keeps: the first k words are right.
use native.Mathlib.Omega.{arith}
use Rattle.corner_words.proofs.Marking.{lefts_none, lefts_next}
use Rattle.corner_words.proofs.mark_lefts.Goals as goal

pub loop-k-init : goal.loop-k-init
loop-k-init c = search lefts_none

pub loop-k-preserved : goal.loop-k-preserved
loop-k-preserved c = lefts_next _ _ _ _ c.loop-k.invariant (omega (arith, c.loop-k.invariant.sized)) c.left_word.ensures

pub returns : goal.returns
returns c = let x = c.loop-k.invariant in record { sized = x.sized; each = λ k l. x.each k (omega (arith, x.sized)) }
