use mathlib.Core.Path.{◌≡◌}
use mathlib.Core.List.{List}
use Prim.Native.Nat.{ℕ, ◌+◌}
use lib.ListN.{length}
use Rattle.tables.specs.Tables.{stored}
use Rattle.heaps.specs.inner.Heaps.{Heap}
use Rattle.lazy_search.proofs.Turns.{Turn}
use Rattle.lazy_search.proofs.settle.Given as goal

abbrev pub invariant-loop-hoped : goal.invariant-loop-hoped
invariant-loop-hoped l =
    ((bends : List ℕ) → Turn (stored l.blocks l.runs) bends l.n l.m l.bounds l.initial.order l.initial.key l.initial.hoped l.initial.due → Turn (stored l.blocks l.runs) bends l.n l.m l.bounds l.order l.key l.hoped l.due)
    × Heap l.bounds l.key l.order 0 l.hoped
    × (length l.last ≡ 240)

abbrev pub decreases-loop-hoped : goal.decreases-loop-hoped
decreases-loop-hoped l = l.hoped + l.due
