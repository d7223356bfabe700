use mathlib.Core.Path.{◌≡◌}
use lib.ListN.{length}
use Rattle.geometry.specs.Words.{word}
use Rattle.tables.specs.Tables.{stored, first_end, second_end}
use Rattle.routing.proofs.Walks.{Going}
use Rattle.lazy_search.specs.inner.Lazy.{straights}
use Rattle.lazy_routes.proofs.walk.Given as goal

abbrev pub invariant-loop-last : goal.invariant-loop-last
invariant-loop-last l = Going (straights (stored l.blocks l.runs)) (first_end l.m) (second_end l.m) l.key l.part l.v l.n × (length l.last ≡ 240)

abbrev pub decreases-loop-last : goal.decreases-loop-last
decreases-loop-last l = word l.key l.v
