use Rattle.corner_words.proofs.Opening.{Opened}
use Rattle.corner_words.proofs.open_word.Given as goal

abbrev pub invariant-loop-rest : goal.invariant-loop-rest
invariant-loop-rest l = Opened l.lefts l.c l.q l.w l.r l.rest

abbrev pub decreases-loop-rest : goal.decreases-loop-rest
decreases-loop-rest l = l.rest
