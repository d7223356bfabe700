use Rattle.corner_words.specs.inner.Corners.{CornersOf}
use Rattle.corner_words.proofs.mark_corners.Given as goal

abbrev pub invariant-loop-q : goal.invariant-loop-q
invariant-loop-q l = CornersOf l.blocks l.corners l.q
