use Rattle.neighbours.specs.inner.Rectangles.{Listed}
use Rattle.neighbours.proofs.Answers.{AloneAt}
use Rattle.neighbours.proofs.mark_near.Given as goal

abbrev pub invariant-loop-p : goal.invariant-loop-p
invariant-loop-p l = Listed (AloneAt l.blocks) l.near l.p
