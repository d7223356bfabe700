use Rattle.geometry.specs.Words.{point_of}
use Rattle.seams.proofs.Rounds.{Going}
use Rattle.seams.proofs.reach.Given as goal

abbrev pub invariant-loop-k : goal.invariant-loop-k
invariant-loop-k l = Going l.words (point_of l.a) (point_of l.b) l.fn.start.l l.fn.start.r l.fn.start.p l.fn.start.q l.kept.l l.kept.r l.kept.p l.kept.q l.k
