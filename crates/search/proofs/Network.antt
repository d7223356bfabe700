-- The graph that a run is routed in: where its marks are numbered, what its straights cost, and that this is their length where the figure is 0.
use mathlib.Core.Path.{◌≡◌, sym, ap, ◌∙◌}
use mathlib.Core.Logic.{inl, inr}
use mathlib.Core.Bool.{true, and-eq-true_iff}
use mathlib.Core.List.{List}
use Prim.Native.Nat.{ℕ, ◌*◌, ◌%◌, ◌/◌, ◌<◌, ◌≤◌}
use native.Mathlib.Omega.{arith}
use lib.Dec.{ltb}
use borrow.Author.Tests.{ltb-true}
use Rattle.paths.specs.Path.{Graph, total, IsRoute}
use Rattle.paths.specs.inner.LowerBound.{ConsistentBound}
use Rattle.geometry.specs.Words.{word}
use Rattle.lengths.specs.Length.{length_of}
use Rattle.lengths.proofs.Roots.{length_bound}
use Rattle.lengths.proofs.Charges.{charge_bound, charge_plain}
use Rattle.tables.specs.Tables.{Records, figure_of, is_corner, place_of, first_end, second_end}
use Rattle.tables.specs.inner.Fit.{Fit}
use Rattle.tables.proofs.Marks.{place_in_range}
use Rattle.search.specs.Network.{cost, graph, plain_graph}
use Rattle.search.specs.inner.Keys.{Vertex}

pub corner_below : (blocks : List ℕ) (u : ℕ) → is_corner blocks u ≡ true → u < 192
unfolding is_corner
corner_below blocks u h = ltb-true u 192 ((and-eq-true_iff (ltb u 192) (ltb (u % 8) (word blocks (17 * (u / 8))))).0 h).0

-- what the search for one run uses of its graph
pub record Sized (G : Graph) (start end : ℕ) : Type 0 where
  pub inner_below : (u : ℕ) → G.Inner u → u < 192
  pub cost_small : (v u : ℕ) → v < 240 → u < 240 → G.cost v u ≤ 46340
  pub start_above : 192 ≤ start
  pub start_below : start < 240
  pub end_above : 192 ≤ end
  pub end_below : end < 240
  pub apart : start ≡ end → ⊥

pub sized : (R : Records) (Clear : ℕ → ℕ → Type 0) (m : ℕ) → Fit R → m < 24 → Sized (graph R Clear) (first_end m) (second_end m)
unfolding cost
sized R Clear m f l =
    record {
      inner_below = corner_below R.blocks;
      cost_small = λ v u a b. charge_bound (figure_of R.runs) _ 46340 (omega (arith, f.runs.figure)) (length_bound (place_of R v) (place_of R u) (place_in_range R v f a) (place_in_range R u f b));
      start_above = omega arith;
      start_below = omega arith;
      end_above = omega arith;
      end_below = omega arith;
      apart = λ e. omega arith;
    }

module _ {G : Graph} {start end : ℕ} (z : Sized G start end) where
  pub vertex_below : (v : ℕ) → Vertex G start v → v < 240
  vertex_below v (inl q) = omega (arith, z.start_below)
  vertex_below v (inr i) = omega (arith, z.inner_below v i)

  pub not_end : (v : ℕ) → Vertex G start v → v ≡ end → ⊥
  not_end v (inl q) e = z.apart (sym q ∙ e)
  not_end v (inr i) e = omega (arith, z.inner_below v i, z.end_above)

  pub bound_small : {bound : ℕ → ℕ} → ConsistentBound G start bound → (v : ℕ) → v < 240 → bound v ≤ 46340
  bound_small a v l = omega (arith, a.step start v, a.none, z.cost_small start v z.start_below l)

-- under the figure 0 the graph is that of the lengths
module _ (R : Records) (Clear : ℕ → ℕ → Type 0) (none : figure_of R.runs ≡ 0) where
  cost_plain : (v u : ℕ) → cost R v u ≡ length_of (place_of R v) (place_of R u)
  unfolding cost
  cost_plain v u = rw none (charge_plain (length_of (place_of R v) (place_of R u)))

  pub graph_plain : graph R Clear ≡ plain_graph R Clear
  graph_plain = λ i. record { Inner = (graph R Clear).Inner; Edge = (graph R Clear).Edge; cost = λ v u. cost_plain v u i }

  -- and so are its routes and what they cost
  pub routes_plain : (start end : ℕ) (us : List ℕ) → IsRoute (graph R Clear) start end us ≡ IsRoute (plain_graph R Clear) start end us
  routes_plain start end us = ap (λ (G : Graph). IsRoute G start end us) graph_plain

  pub totals_plain : (us : List ℕ) → total (cost R) us ≡ total (plain_graph R Clear).cost us
  totals_plain us = ap (λ (G : Graph). total G.cost us) graph_plain
