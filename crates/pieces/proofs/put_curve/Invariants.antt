use Rattle.geometry.specs.Words.{point_of}
use Rattle.curves.specs.Curve.{bend_at}
use Rattle.pieces.specs.inner.Steps.{RowTo}
use Rattle.pieces.proofs.put_curve.Given as goal

abbrev pub invariant-loop-t : goal.invariant-loop-t
invariant-loop-t l = RowTo (bend_at (point_of l.a) (point_of l.p) (point_of l.c)) 9 l.t l.points
