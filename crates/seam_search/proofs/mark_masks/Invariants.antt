use Rattle.neighbours.specs.inner.Rectangles.{Listed}
use Rattle.seam_search.specs.inner.Masks.{Mask}
use Rattle.seam_search.proofs.mark_masks.Given as goal

abbrev pub invariant-loop-p : goal.invariant-loop-p
invariant-loop-p l = Listed (Mask l.blocks) l.masks l.p
