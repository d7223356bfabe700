use Rattle.geometry.specs.Words.{point_of, block_words}
use Rattle.seams.specs.inner.Reach.{Meeting}
use Rattle.seam_search.proofs.Walking.{Walked}
use Rattle.seam_search.proofs.joined_among.Given as goal

abbrev pub invariant-loop-rest : goal.invariant-loop-rest
invariant-loop-rest l = Walked (λ k. Meeting (block_words l.blocks k) (point_of l.a) (point_of l.b) l.kept.l l.kept.r l.kept.p l.kept.q) l.word l.rest

abbrev pub decreases-loop-rest : goal.decreases-loop-rest
decreases-loop-rest l = l.rest
