use Rattle.corner_words.specs.inner.Corners.{Lefts}
use Rattle.corner_words.proofs.mark_lefts.Given as goal

abbrev pub invariant-loop-k : goal.invariant-loop-k
invariant-loop-k l = Lefts l.codes l.lefts l.k
