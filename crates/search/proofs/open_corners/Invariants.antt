use mathlib.Core.Path.{◌≡◌}
use lib.ListN.{length}
use Rattle.search.specs.inner.Parts.{Corners}
use Rattle.search.proofs.open_corners.Given as goal

abbrev pub invariant-loop-i : goal.invariant-loop-i
invariant-loop-i l = Corners l.blocks l.list.order l.list.spot l.i l.n × (length l.list.sums ≡ 194) × (l.list.sums ≡ l.fn.list.sums)
