use Rattle.geometry.specs.Words.{point_of}
use Rattle.seams.proofs.Joining.{MissedTo}
use Rattle.seams.proofs.joined.Given as goal

abbrev pub invariant-loop-m : goal.invariant-loop-m
invariant-loop-m l = MissedTo l.blocks l.from (point_of l.a) (point_of l.b) l.kept.l l.kept.r l.kept.p l.kept.q l.m
