use Rattle.corner_words.proofs.Mirroring.{Mirroring}
use Rattle.corner_words.proofs.mirror.Given as goal

abbrev pub invariant-loop-k : goal.invariant-loop-k
invariant-loop-k l = Mirroring l.initial.rows l.rows l.k
