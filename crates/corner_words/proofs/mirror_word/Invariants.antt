use Rattle.corner_words.proofs.Mirroring.{Turning}
use Rattle.corner_words.proofs.mirror_word.Given as goal

abbrev pub invariant-loop-rest : goal.invariant-loop-rest
invariant-loop-rest l = Turning l.initial.rows l.rows l.k l.rest

abbrev pub decreases-loop-rest : goal.decreases-loop-rest
decreases-loop-rest l = l.rest
