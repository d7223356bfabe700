use native.Mathlib.Omega.{arith}
use Rattle.totals.proofs.Counting.{tally_none, tally_room, tally_next}
use Rattle.totals.proofs.tally.Goals as goal

pub loop-byte-init : goal.loop-byte-init
loop-byte-init c = search tally_none

pub overflow_add-counts : goal.overflow_add-counts
overflow_add-counts c =
    rw c.from.ensures
    (tally_room _ _ c.loop-byte.byte-index c.requires.0 c.loop-byte-test.true (omega (arith, c.type_inv.pairs c.loop-byte.byte-index)) c.loop-byte.invariant)

pub loop-byte-preserved : goal.loop-byte-preserved
loop-byte-preserved c =
    rw c.from.ensures (tally_next _ _ c.loop-byte.byte-index c.loop-byte-test.true (omega (arith, c.type_inv.pairs c.loop-byte.byte-index)) c.loop-byte.invariant)
