-- Whether two keys differ by a straight.
use mathlib.Core.Path.{◌≡◌}
use mathlib.Core.Bool.{false}
use Prim.Native.Nat.{ℕ, ◌-◌, ◌/◌, ◌%◌, ◌<◌, ◌≤◌}
use native.Mathlib.Omega.{arith}
use lib.Dec.{eqb}
use borrow.Author.Tests.{eqb-true, eqb-false}
use Rattle.lists.specs.inner.Tells.{Tells}
use Rattle.lists.proofs.Telling.{tells_no}
use Rattle.tables.specs.Tables.{Records}
use Rattle.search.specs.Network.{cost, graph}
use Rattle.routing.specs.inner.Walking.{TightKey}

module _ (R : Records) (Clear : ℕ → ℕ → Type 0) (v u kv ku : ℕ) where
  pub loose_order : kv ≤ ku → Tells (TightKey (graph R Clear) v u kv ku) false
  loose_order l = tells_no (λ t. omega (arith, t.sum))

  pub loose_straights : ku < kv → ((kv - ku) % 256 ≡ 1 → ⊥) → Tells (TightKey (graph R Clear) v u kv ku) false
  loose_straights l h = tells_no (λ t. h (omega (arith, t.sum)))

  pub loose_hidden : (Clear v u → ⊥) → Tells (TightKey (graph R Clear) v u kv ku) false
  loose_hidden h = tells_no (λ t. h t.edge.1)

  -- by the straight's cost x
  pub by_cost : (x : ℕ) → (v ≡ u → kv ≡ ku) → ku < kv → (kv - ku) % 256 ≡ 1 → Clear v u → cost R v u ≡ x
      → Tells (TightKey (graph R Clear) v u kv ku) (eqb x ((kv - ku) / 256))
  by_cost x d l o e k =
      record {
        yes' = λ t. record { edge = (λ (q : v ≡ u). omega (arith, d q), e); sum = omega (arith, eqb-true x ((kv - ku) / 256) t) };
        no' = λ t y. eqb-false x ((kv - ku) / 256) t (omega (arith, y.sum));
      }
