use mathlib.Core.Path.{◌≡◌}
use Prim.Native.Nat.{ℕ, ◌<◌}
use lib.ListN.{length}
use Rattle.geometry.specs.Words.{word}
use Rattle.tables.specs.Tables.{stored}
use Rattle.routing.specs.inner.Walking.{TightKey}
use Rattle.lazy_search.specs.inner.Lazy.{straights}
use Rattle.lazy_routes.proofs.next_hop.Given as goal

abbrev pub invariant-loop-u : goal.invariant-loop-u
invariant-loop-u l = (length l.last ≡ 240) × ((w : ℕ) → w < l.u → TightKey (straights (stored l.blocks l.runs)) l.v w l.kv (word l.key w) → ⊥)
