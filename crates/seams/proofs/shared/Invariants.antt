use Rattle.geometry.specs.Words.{point_of}
use Rattle.seams.proofs.Joining.{UnsharedTo}
use Rattle.seams.proofs.shared.Given as goal

abbrev pub invariant-loop-n : goal.invariant-loop-n
invariant-loop-n l = UnsharedTo l.blocks (point_of l.a) (point_of l.b) l.n
