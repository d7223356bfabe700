-- The lengths of found runs added up: why no addition wraps.
use mathlib.Core.Path.{◌≡◌, refl, ap}
use mathlib.Core.List.{List}
use Prim.Native.Nat.{ℕ, zero, suc, ◌+◌, ◌*◌, ◌-◌, ◌<◌, ◌≤◌}
use native.Mathlib.Omega.{arith}
use native.Mathlib.Numerals.{add-one}
use lib.ListN.{length, take, drop}
use Rattle.paths.specs.Path.{Graph, Chain, last, more, total}
use Rattle.paths.proofs.Short.{chain_two, total_more}
use Rattle.tables.specs.Tables.{Records, route_words, first_end, second_end}
use Rattle.tables.specs.inner.Fit.{Fit}
use Rattle.search.specs.Network.{graph}
use Rattle.search.proofs.Network.{Sized, sized}
use Rattle.routing.specs.Routes.{RouteIs, no_run, found, no_way, Routed}
use Rattle.routing.proofs.Written.{lent_part}
use Rattle.routing.proofs.Fits.{route_short}
use Rattle.totals.specs.Totals.{found_length, found_sum}
use Rattle.totals.specs.inner.Addable.{Addable}

-- ---- the sum
pub sum_none : (routes : List ℕ) → 0 ≡ found_sum 0 routes
unfolding found_sum
sum_none routes = refl

module _ (routes : List ℕ) (m sum r : ℕ) (s : sum ≡ found_sum m routes) (e : r ≡ found_length (take (197 * m + 197 - 197 * m) (drop (197 * m) routes))) where
  pub sum_next : sum + r ≡ found_sum (m + 1) routes
  unfolding found_sum
  sum_next = rw add-one (omega (arith, s, e, ap found_length (lent_part routes m)))

sum_small : (routes : List ℕ) (m : ℕ) → Addable routes → m ≤ 24 → found_sum m routes ≤ 8943620 * m
unfolding found_sum
sum_small routes zero a l = omega arith
sum_small routes (suc m) a l = omega (arith, sum_small routes m a (omega arith), a.each m (omega arith))

pub sum_fits : (routes : List ℕ) (m sum r : ℕ) → Addable routes → m < 24 → sum ≡ found_sum m routes → r ≡ found_length (take (197 * m + 197 - 197 * m) (drop (197 * m) routes))
    → sum + r < 4294967296
sum_fits routes m sum r a l s e = omega (arith, sum_small routes m a (omega arith), a.each m l, ap found_length (lent_part routes m))

pub sum_zero : (routes : List ℕ) (m : ℕ) → ((k : ℕ) → k < m → found_length (route_words routes k) ≡ 0) → found_sum m routes ≡ 0
unfolding found_sum
sum_zero routes zero h = refl
sum_zero routes (suc m) h = omega (arith, sum_zero routes m (λ k l. h k (omega arith)), h m (omega arith))

-- ---- a route has at most 193 straights, and each costs at most 46,340
chain_cost : (G : Graph) (start end v : ℕ) {us : List ℕ} → Sized G start end → v < 240 → Chain G end v us → total G.cost us ≤ 46340 * (length us - 1)
chain_cost G start end v s l (last e) = omega (arith, s.cost_small v end l s.end_below)
chain_cost G start end v s l (more {u = u} {us = us} i e c) =
    let b : u < 192 = s.inner_below u i in
    let b' : u < 240 = omega arith in
    omega (arith, total_more G end v c, s.cost_small v u l b', chain_cost G start end u s b' c, chain_two G end c)

route_cost : (R : Records) (Clear : ℕ → ℕ → Type 0) (m : ℕ) {ws : List ℕ} → Fit R → m < 24 → RouteIs R Clear m ws → found_length ws ≤ 8943620
unfolding found_length
route_cost R Clear m f l (no_run e) = omega arith
route_cost R Clear m f l (no_way e n) = omega arith
route_cost R Clear m f l (found e us r) =
    let s = sized R Clear m f l in
    omega (arith, route_short R Clear m us r, chain_cost (graph R Clear) (first_end m) (second_end m) (first_end m) s s.start_below r.chain)

pub routed_addable : (R : Records) (pairs routes : List ℕ) → Fit R → Routed R pairs routes → Addable routes
routed_addable R pairs routes f r = record { sized = r.sized; each = λ m l. route_cost R _ m f l (r.each m l) }
