use Rattle.geometry.specs.Words.{block_words}
use Rattle.neighbours.specs.inner.Rectangles.{Bound, Listed}
use Rattle.neighbours.proofs.mark_bounds.Given as goal

abbrev pub invariant-loop-p : goal.invariant-loop-p
invariant-loop-p l = Listed (λ k m. Bound (block_words l.blocks k) l.i l.end m) l.bounds l.p
