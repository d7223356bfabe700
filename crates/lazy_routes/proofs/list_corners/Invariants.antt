use Rattle.lazy_routes.proofs.Corners.{ListedTo}
use Rattle.lazy_routes.proofs.list_corners.Given as goal

abbrev pub invariant-loop-i : goal.invariant-loop-i
invariant-loop-i l = ListedTo l.blocks l.order l.i l.n
