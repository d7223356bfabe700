use Rattle.geometry.specs.Words.{point_of}
use Rattle.geometry.proofs.Searching.{Passed}
use Rattle.geometry.proofs.hides.Given as goal

abbrev pub invariant-loop-k : goal.invariant-loop-k
invariant-loop-k l = Passed l.words (point_of l.a) (point_of l.b) l.kept.l l.kept.r l.kept.p l.kept.q l.k
