-- The loop keeps: the bits of w say which of the corners from 64 q + k on are present.
use native.Mathlib.Omega.{arith}
use Rattle.mark_rows.proofs.Words.{part_none, part_small, part_next, part_whole}
use Rattle.corner_words.proofs.corner_word.Goals as goal

pub loop-k-init : goal.loop-k-init
loop-k-init c = part_none _ _

pub below-w-requires : goal.below-w-requires
below-w-requires c = (part_small _ _ _ _ c.loop-k.invariant c.loop-k-test.true, c.corner_bit.ensures.small)

pub loop-k-preserved : goal.loop-k-preserved
loop-k-preserved c =
    part_next _ _ _ _ c.loop-k.invariant c.loop-k-test.true _ _ c.corner_bit.ensures c.below-w.ensures.0 c.below-w.ensures.1 c.below-w.ensures.2

pub returns : goal.returns
returns c = part_whole _ _ _ _ c.loop-k.invariant (omega arith)
