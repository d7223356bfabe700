use mathlib.Core.Path.{◌≡◌}
use lib.ListN.{length}
use Rattle.tables.specs.Tables.{stored}
use Rattle.heaps.specs.inner.Marks.{Among}
use Rattle.lazy_search.specs.inner.Lazy.{straights, Eased}
use Rattle.lazy_search.proofs.ease.Given as goal

abbrev pub invariant-loop-j : goal.invariant-loop-j
invariant-loop-j l = (length l.last ≡ 240) × Eased (straights (stored l.blocks l.runs)) (Among l.order l.lo l.j) l.initial.key l.key l.s l.ks
