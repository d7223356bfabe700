-- The rule for a route record leaves no choice of its words.
use mathlib.Core.Path.{◌≡◌, refl, ap}
use mathlib.Core.List.{List}
use Prim.Native.Nat.{ℕ}
use native.Mathlib.Omega.{arith}
use Rattle.paths.proofs.Order.{route_one}
use Rattle.tables.specs.Tables.{Records, first_end, second_end}
use Rattle.tables.proofs.Splices.{routes_ext}
use Rattle.search.specs.Network.{ByBytes, graph}
use Rattle.routing.specs.Routes.{found_words, RouteIs, no_run, found, no_way, Routed}

pub route_unique : (R : Records) (Clear : ℕ → ℕ → Type 0) (m : ℕ) {ws xs : List ℕ} → RouteIs R Clear m ws → RouteIs R Clear m xs → ws ≡ xs
route_unique R C m (no_run a) (no_run b) = refl
route_unique R C m (no_run a) (found b us r) = absurd (omega arith)
route_unique R C m (no_run a) (no_way b f) = absurd (omega arith)
route_unique R C m (found a us r) (no_run b) = absurd (omega arith)
route_unique R C m (found a us r) (found b vs s) = ap (found_words R) (route_one (graph R C) (first_end m) (second_end m) us vs r s)
route_unique R C m (found a us r) (no_way b f) = absurd (f us r.chain)
route_unique R C m (no_way a f) (no_run b) = absurd (omega arith)
route_unique R C m (no_way a f) (found b us r) = absurd (f us r.chain)
route_unique R C m (no_way a f) (no_way b g) = refl

-- and so of the whole route table
pub routed_unique : (R : Records) (pairs s t : List ℕ) → Routed R pairs s → Routed R pairs t → s ≡ t
routed_unique R pairs s t a b = routes_ext s t a.sized b.sized (λ m l. route_unique R (ByBytes pairs) m (a.each m l) (b.each m l))
