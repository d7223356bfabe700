use Rattle.seam_search.proofs.Marking.{mask_next}
use Rattle.seam_search.proofs.Boxes.mask.Goals as goal

pub loop-q-preserved : goal.loop-q-preserved
loop-q-preserved c =
    mask_next c.loop-q.invariant _ c.loop-q-test.true c.from.ensures c.is_near.ensures c.below-w.ensures.0 c.below-w.ensures.1 c.below-w.ensures.2
