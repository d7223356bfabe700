-- What the rule of seams does to routes and drawings: an end in a seam has no way, and where no two blocks share a place all is as before.
use mathlib.Core.Path.{◌≡◌}
use mathlib.Core.Logic.{◌↔◌}
use mathlib.Core.List.{List}
use Prim.Native.Nat.{ℕ}
use Rattle.seams.specs.Seam.{Shared, Disjoint}
use Rattle.seams.proofs.Seams.{disjoint_unshared}
use Rattle.tables.specs.Tables.{Records, Tables, records, place_of, first_end, second_end}
use Rattle.visibility.specs.Visibility.{ByPlaces, PairIs}
use Rattle.visibility.proofs.Straights.{clear_sym, clear_end}
use Rattle.paths.specs.Path.{Graph, Chain, last, more, NoChain}
use Rattle.search.specs.Network.{graph}
use Rattle.routing.proofs.Maps.{route_as}
use Rattle.book.specs.Book.{Book}
use Rattle.book.specs.Drawing.{Right, Drawn}
use Rattle.book.specs.OldRule.{WasClear, PairWas, WasRight, WasDrawn}
use Rattle.book.proofs.Unique.{drawn_unique}

-- ---- an end whose place belongs to two blocks
module _ (R : Records) (m : ℕ) where
  abbrev G : Graph
  G = graph R (ByPlaces R)

  pub first_in_seam : Shared R.blocks (place_of R (first_end m)) (place_of R (first_end m)) → NoChain G (first_end m) (second_end m)
  first_in_seam h vs (last e) = (clear_end (clear_sym e.1.1)).unshared h
  first_in_seam h vs (more i e c) = (clear_end (clear_sym e.1.1)).unshared h

  never_there : Shared R.blocks (place_of R (second_end m)) (place_of R (second_end m)) → {v : ℕ} {vs : List ℕ} → Chain G (second_end m) v vs → ⊥
  never_there h (last e) = (clear_end e.1.1).unshared h
  never_there h (more i e c) = never_there h c

  pub second_in_seam : Shared R.blocks (place_of R (second_end m)) (place_of R (second_end m)) → NoChain G (first_end m) (second_end m)
  second_in_seam h vs c = never_there h c

-- ---- where no two blocks share a place
module _ (R : Records) (d : Disjoint R.blocks) where
  clear_now : (v u : ℕ) → WasClear R v u → ByPlaces R v u
  clear_now v u c = (c.0, record { seen = c.1; unshared = disjoint_unshared R.blocks _ _ d })

  clear_then : (v u : ℕ) → ByPlaces R v u → WasClear R v u
  clear_then v u c = (c.0, c.1.seen)

  pair_now : (i j b : ℕ) → PairWas R i j b → PairIs R i j b
  pair_now i j b (PairWas.absent e o) = PairIs.absent e o
  pair_now i j b (PairWas.clear c o) = let n = clear_now i j c in PairIs.clear n.0 n.1 o
  pair_now i j b (PairWas.hidden e l h m) = PairIs.hidden e l h m

  pair_then : (i j b : ℕ) → PairIs R i j b → PairWas R i j b
  pair_then i j b (PairIs.absent e o) = PairWas.absent e o
  pair_then i j b (PairIs.clear e c o) = PairWas.clear (e, c.seen) o
  pair_then i j b (PairIs.seam e c o) = absurd (disjoint_unshared R.blocks _ _ d c.shared)
  pair_then i j b (PairIs.hidden e l h m) = PairWas.hidden e l h m

-- tables are right by the rule before seams just where they are by the rule with them
pub old_rule : (T : Tables) → Disjoint T.blocks → WasRight T ↔ Right T
old_rule T d = (
  λ w. record {
    pairs = record { each = λ i j h l. pair_now (records T) d i j _ (w.pairs i j h l) };
    routes = λ m l. route_as (records T) _ _ (λ v u a b x. clear_now (records T) d v u) (λ v u a b x. clear_then (records T) d v u) m l (w.routes m l);
    totals = w.totals;
  },
  λ r. record {
    pairs = λ i j h l. pair_then (records T) d i j _ (r.pairs.each i j h l);
    routes = λ m l. route_as (records T) _ _ (λ v u a b x. clear_then (records T) d v u) (λ v u a b x. clear_now (records T) d v u) m l (r.routes m l);
    totals = r.totals;
  },
)

-- so a yard drawn by the rule before is redrawn with the same bytes
pub redrawn_same : (b : Book) (T T' : Tables) → Disjoint T.blocks → WasDrawn b T → Drawn b T' → T' ≡ T
redrawn_same b T T' d w n =
    drawn_unique b T' T n (record { sizes = w.sizes; blocks = w.blocks; runs = w.runs; figure = w.figure; right = (old_rule T d).0 w.right })
