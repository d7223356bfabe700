use Prim.Native.Nat.{ℕ, ◌<◌, ◌≤◌}
use Rattle.geometry.specs.Words.{word}
use Rattle.tables.specs.Tables.{stored}
use Rattle.search.specs.Network.{ByBytes, graph}
use Rattle.routing.specs.inner.Walking.{TightKey}
use Rattle.routing.proofs.next_hop.Given as goal

abbrev pub invariant-loop-u : goal.invariant-loop-u
invariant-loop-u l = (l.u ≤ 192) × ((w : ℕ) → w < l.u → TightKey (graph (stored l.blocks l.runs) (ByBytes l.pairs)) l.v w l.kv (word l.key w) → ⊥)
