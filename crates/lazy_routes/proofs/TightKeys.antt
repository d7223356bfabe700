-- Whether two keys differ by a straight whose cost is known before it is tested.
use mathlib.Core.Path.{◌≡◌, sym, ◌∙◌}
use mathlib.Core.Bool.{Bool, true, false}
use Prim.Native.Nat.{ℕ, ◌-◌, ◌/◌, ◌%◌, ◌<◌}
use native.Mathlib.Omega.{arith}
use lib.Dec.{eqb}
use borrow.Author.Tests.{eqb-true, eqb-false}
use Rattle.lists.specs.inner.Tells.{Tells}
use Rattle.lists.proofs.Telling.{tells_no}
use Rattle.tables.specs.Tables.{Records}
use Rattle.search.specs.Network.{cost, graph}
use Rattle.routing.specs.inner.Walking.{TightKey}

module _ (R : Records) (Clear : ℕ → ℕ → Type 0) (v u kv ku x : ℕ) (l : ku < kv) (e : cost R v u ≡ x) where
  pub loose_cost : (b : Bool) → b ≡ eqb x ((kv - ku) / 256) → b ≡ false → Tells (TightKey (graph R Clear) v u kv ku) false
  loose_cost b q h = tells_no (λ t. eqb-false x ((kv - ku) / 256) (sym q ∙ h) (omega (arith, t.sum)))

  pub by_sight : (t : Bool) → (v ≡ u → kv ≡ ku) → (kv - ku) % 256 ≡ 1 → (b : Bool) → b ≡ eqb x ((kv - ku) / 256) → b ≡ true → Tells (Clear v u) t
      → Tells (TightKey (graph R Clear) v u kv ku) t
  by_sight t d o b q h s =
      let same : x ≡ (kv - ku) / 256 = eqb-true x ((kv - ku) / 256) (sym q ∙ h) in
      record {
        yes' = λ y. record { edge = (λ (w : v ≡ u). omega (arith, d w), s.yes' y); sum = omega arith };
        no' = λ y z. s.no' y z.edge.1;
      }
