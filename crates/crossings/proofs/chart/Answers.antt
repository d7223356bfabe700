use Rattle.crossings.proofs.Charts.{told_bit, charted_next}
use Rattle.crossings.proofs.chart.Goals as goal

pub loop-v-preserved : goal.loop-v-preserved
loop-v-preserved c =
    charted_next _ _ _ _ _ _ c.loop-v-test.true c.loop-v.invariant (rw c.from.ensures (told_bit c.north_clear-north.ensures))
    (rw c.from-in-loop-v.ensures (told_bit c.east_clear-east.ensures))
