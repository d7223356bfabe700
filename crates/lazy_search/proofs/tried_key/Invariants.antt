use mathlib.Core.Path.{◌≡◌}
use Prim.Native.Nat.{◌≤◌}
use lib.ListN.{length}
use Rattle.tables.specs.Tables.{stored}
use Rattle.heaps.specs.inner.Marks.{Among}
use Rattle.lazy_search.specs.inner.Lazy.{straights, Exact}
use Rattle.lazy_search.proofs.tried_key.Given as goal

abbrev pub invariant-loop-i : goal.invariant-loop-i
invariant-loop-i l = (l.lo ≤ l.i) × (length l.last ≡ 240) × Exact (straights (stored l.blocks l.runs)) (Among l.order l.i l.hi) l.key l.v l.best
