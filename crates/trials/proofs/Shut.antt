-- A run with an end at a place that is not clear has no way.
use mathlib.Core.Path.{◌≡◌}
use mathlib.Core.List.{List, [], ◌∷◌}
use Prim.Native.Nat.{ℕ}
use lib.ListN.{get_or, replicate}
use Rattle.geometry.specs.Words.{Point}
use Rattle.tables.specs.Tables.{Tables, records}
use Rattle.visibility.specs.Visibility.{Clear, ByPlaces}
use Rattle.visibility.proofs.Straights.{clear_sym, clear_end}
use Rattle.paths.specs.Path.{Graph, Chain, last, more, NoChain}
use Rattle.search.specs.Network.{graph}
use Rattle.routing.specs.Routes.{RouteIs, no_way}
use Rattle.book.specs.Book.{Book}
use Rattle.book.specs.Drawing.{Drawn}
use Rattle.book.proofs.Bare.{run_there, first_place, second_place}

module _ (b : Book) (T : Tables) (d : Drawn b T) (p q : Point) (run : get_or b.runs 0 [] ≡ p ∷ q ∷ []) where
  abbrev G : Graph
  G = graph (records T) (ByPlaces (records T))

  never_in : (Clear T.blocks q q → ⊥) → {v : ℕ} {vs : List ℕ} → Chain G 193 v vs → ⊥
  never_in f (last e) = f (clear_end (rw (second_place b T d p q run) at e.1.1))
  never_in f (more i e c) = never_in f c

  never_out : (Clear T.blocks p p → ⊥) → {u : ℕ} → G.Edge 192 u → ⊥
  never_out f e = f (clear_end (clear_sym (rw (first_place b T d p q run) at e.1.1)))

  no_leaving : (Clear T.blocks p p → ⊥) → NoChain G 192 193
  no_leaving f vs (last e) = never_out f e
  no_leaving f vs (more i e c) = never_out f e

  pub ends_shut : (Clear T.blocks q q → ⊥) → RouteIs (records T) (ByPlaces (records T)) 0 (2 ∷ replicate 196 0)
  ends_shut f = no_way (run_there b T d p q run) (λ vs c. never_in f c)

  pub starts_shut : (Clear T.blocks p p → ⊥) → RouteIs (records T) (ByPlaces (records T)) 0 (2 ∷ replicate 196 0)
  starts_shut f = no_way (run_there b T d p q run) (no_leaving f)
