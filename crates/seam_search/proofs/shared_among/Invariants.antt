use Rattle.geometry.specs.Words.{point_of, word}
use Rattle.seam_search.specs.inner.Masks.{SharedAfter}
use Rattle.seam_search.proofs.Walking.{Walked}
use Rattle.seam_search.proofs.shared_among.Given as goal

abbrev pub invariant-loop-rest : goal.invariant-loop-rest
invariant-loop-rest l = Walked (λ p. SharedAfter l.blocks (word l.masks p) l.touched p (point_of l.a) (point_of l.b)) l.touched l.rest

abbrev pub decreases-loop-rest : goal.decreases-loop-rest
decreases-loop-rest l = l.rest
