-- The route of run 0 in a drawing, by labels that a computed test accepts: no straight undercuts them, and the walk by them is the route.
use mathlib.Core.Path.{◌≡◌, refl, sym, ap, ◌∙◌, subst}
use mathlib.Core.Logic.{◌⊎◌, inl, inr, ⊎_elim}
use mathlib.Core.List.{List, [], ◌∷◌, ◌++◌}
use mathlib.Core.Bool.{Bool, true, false, ◌&&◌, ◌||◌, not, true≢false}
use Prim.Native.Nat.{ℕ, ◌+◌, ◌-◌, ◌≤◌}
use native.Mathlib.Decide.{dec_lt}
use native.Mathlib.Omega.{arith}
use lib.Dec.{leb, eqb}
use lib.ListN.{length, get_or, replicate}
use borrow.Author.Tests.{leb-true, le-leb, eqb-true, eqb-false, eq-eqb, ne_eqb, not-true}
use Rattle.lists.proofs.Every.{both, and_yes, or_cases}
use Rattle.geometry.specs.Words.{Point}
use Rattle.lengths.specs.Length.{squared, length_of, root_up}
use Rattle.lengths.specs.Charge.{charge}
use Rattle.tables.specs.Tables.{Tables, records, present}
use Rattle.visibility.specs.Visibility.{ByPlaces}
use Rattle.paths.specs.Path.{Graph, total}
use Rattle.paths.proofs.Labels.{Label, label, hop, label_eq, ◌≼◌, lower, tied, Source, Settled, Tight, Walk, arrive, onward, walk_label, walk_route}
use Rattle.search.specs.Network.{cost, graph}
use Rattle.search.proofs.Network.{corner_below}
use Rattle.routing.specs.Routes.{RouteIs, found}
use Rattle.book.specs.Book.{Book}
use Rattle.book.specs.Drawing.{Drawn}
use Rattle.trials.proofs.Sight.{or_else}
use Rattle.book.proofs.Bare.{run_there}
use Rattle.trials.proofs.Measures.{at_least, measures, at_least_lem, measured, measures_of}
use Rattle.trials.proofs.Drawings.{seen, scattered, corner_mark, each_corner, mark_at, seen_yes, seen_of, corner_of, at_corner, Mark, start, finish, corner, place_is, present_is}

module _ (b : Book) (p q : Point) (L : ℕ → Label) where
  -- the sum of the squares between two marks
  abbrev apart : ℕ → ℕ → ℕ
  apart v u = squared (mark_at b p q v) (mark_at b p q u)

  abbrev sees : ℕ → ℕ → Bool
  sees v u = seen b (mark_at b p q v) (mark_at b p q u)

  -- there is no straight from v to u, or their labels differ by no more than it, or by less
  unfoldable relaxes : ℕ → ℕ → Bool
  unfolding seen mark_at at_least
  relaxes v u =
      eqb v u || (not (sees v u) || (leb (L v).hops (1 + (L u).hops) && at_least b.figure (apart v u) ((L v).len - (L u).len)
      || at_least b.figure (apart v u) ((L v).len + 1 - (L u).len)))

  -- the labels add up by the straight from v to u
  unfoldable adds : ℕ → ℕ → Bool
  unfolding seen mark_at measures
  adds v u = not (eqb v u) && (sees v u && (eqb (L v).hops (1 + (L u).hops) && (leb (L u).len (L v).len && measures b.figure (apart v u) ((L v).len - (L u).len))))

  unfoldable relaxes_all : ℕ → Bool
  unfolding relaxes each_corner
  relaxes_all u = relaxes 192 u && each_corner b (λ v. relaxes v u)

  -- no lower corner adds up
  unfoldable lowest : ℕ → ℕ → Bool
  unfolding adds each_corner
  lowest v u = each_corner b (λ w. leb u w || not (adds v w))

  -- from v, each next mark is the lowest that adds up, and the last is the run's second end
  unfoldable walks : ℕ → List ℕ → Bool
  unfolding adds lowest corner_mark
  walks v [] = false
  walks v (u ∷ []) = eqb u 193 && (adds v u && lowest v u)
  walks v (u ∷ w ∷ us) = corner_mark b u && (adds v u && (lowest v u && walks u (w ∷ us)))

  unfoldable pub shows : List ℕ → Bool
  unfolding relaxes_all each_corner walks
  shows us = relaxes_all 193 && (each_corner b relaxes_all && walks 192 us)

  module _ (T : Tables) (d : Drawn b T) (run : get_or b.runs 0 [] ≡ p ∷ q ∷ []) (apart-all : scattered b ≡ true) (zero-end : L 193 ≡ label 0 0) where
    abbrev G : Graph
    G = graph (records T) (ByPlaces (records T))

    abbrev At : ℕ → Type 0
    At u = Mark b T d p q run u

    cost_is : {v u : ℕ} → At v → At u → cost (records T) v u ≡ charge b.figure (root_up (apart v u))
    unfolding cost length_of
    cost_is m n = rw (d.figure, place_is b T d p q run m, place_is b T d p q run n)

    seen_edge : {v u : ℕ} → At v → At u → G.Edge v u → sees v u ≡ true
    seen_edge m n e = seen_of b T d _ _ (rw (place_is b T d p q run m, place_is b T d p q run n) at e.1.1)

    edge_seen : {v u : ℕ} → At v → At u → (v ≡ u → ⊥) → sees v u ≡ true → G.Edge v u
    edge_seen m n a h =
        (a, (and_yes (present (records T) _) _ (present_is b T d p q run m) (present_is b T d p q run n), rw (place_is b T d p q run m, place_is b T d p q run n) (seen_yes b T d apart-all _ _ h)))

    relaxed_by : {v u : ℕ} → At v → At u → relaxes v u ≡ true → G.Edge v u → L v ≼ hop (cost (records T) v u) (L u)
    unfolding relaxes
    relaxed_by {v} {u} m n h e =
        let s = or_else (eqb v u) _ h (λ t. e.0 (eqb-true v u t)) in
        let r = or_else (not (sees v u)) _ s (λ t. true≢false (sym (seen_edge m n e) ∙ not-true _ t)) in
        ⊎_elim (λ c.
        let t = both (leb (L v).hops (1 + (L u).hops)) _ c in
        above (L v) (L u) (cost (records T) v u) (omega (arith, cost_is m n, at_least_lem b.figure (apart v u) ((L v).len - (L u).len) t.1)) (leb-true _ _ t.0))
        (λ c. lower (omega (arith, cost_is m n, at_least_lem b.figure (apart v u) ((L v).len + 1 - (L u).len) c)))
        (or_cases (leb (L v).hops (1 + (L u).hops) && at_least b.figure (apart v u) ((L v).len - (L u).len)) _ r)
      where
        above : (a b : Label) (c : ℕ) → a.len ≤ c + b.len → a.hops ≤ 1 + b.hops → a ≼ hop c b
        above a b c l h = elim (dec_lt a.len (c + b.len)) [ yes k ↦ lower k | no k ↦ tied (omega arith) h ]

    source : {v : ℕ} → Source G 192 193 v → At v
    source (inl e) = subst At (sym e) start
    source (inr i) = corner i

    from : (u : ℕ) {v : ℕ} → Source G 192 193 v → relaxes_all u ≡ true → relaxes v u ≡ true
    unfolding relaxes_all
    from u (inl e) h = ap (λ (w : ℕ). relaxes w u) e ∙ (both (relaxes 192 u) _ h).0
    from u {v} (inr i) h = at_corner b T d (λ w. relaxes w u) (both (relaxes 192 u) _ h).1 v i

    -- every mark is settled
    abbrev Everywhere : ℕ → Type 0
    Everywhere u = Unit {0}

    settled : relaxes_all 193 ≡ true → each_corner b relaxes_all ≡ true → Settled G 192 193 Everywhere L
    settled end all =
        record {
          end_zero = zero-end;
          relaxed_last = λ v s e. relaxed_by (source s) finish (from 193 s end) e;
          relaxed = λ v u s i e m. relaxed_by (source s) (corner i) (from u s (at_corner b T d relaxes_all all u i)) e;
          bound = λ v. 0;
          consistent = record { none = refl; step = λ v u. omega arith };
          open' = λ u i. inl tt;
        }

    adds_of : {v u : ℕ} → At v → At u → G.Edge v u → L v ≡ hop (cost (records T) v u) (L u) → adds v u ≡ true
    unfolding adds
    adds_of {v} {u} m n e s =
        let k : (L v).len ≡ cost (records T) v u + (L u).len = ap (λ (l : Label). l.len) s in
        let r : charge b.figure (root_up (apart v u)) ≡ (L v).len - (L u).len = omega (arith, cost_is m n) in
        rw (
          ne_eqb v u e.0,
          seen_edge m n e,
          eq-eqb (L v).hops (1 + (L u).hops) (ap (λ (l : Label). l.hops) s),
          le-leb (L u).len (L v).len (omega arith),
        ) (measures_of _ _ _ r)

    of_adds : {v u : ℕ} → At v → At u → adds v u ≡ true → G.Edge v u × (L v ≡ hop (cost (records T) v u) (L u))
    unfolding adds
    of_adds {v} {u} m n h =
        let a = both (not (eqb v u)) _ h in
        let s = both (sees v u) _ a.1 in
        let t = both (eqb (L v).hops (1 + (L u).hops)) _ s.1 in
        let l = both (leb (L u).len (L v).len) _ t.1 in
        let r : charge b.figure (root_up (apart v u)) ≡ (L v).len - (L u).len = measured _ _ _ l.1 in
        let k : (L v).len ≡ cost (records T) v u + (L u).len = omega (arith, cost_is m n, leb-true (L u).len (L v).len l.0) in
        (edge_seen m n (eqb-false v u (not-true _ a.0)) s.0, label_eq k (eqb-true _ _ t.0))

    module _ (s : Settled G 192 193 Everywhere L) where
      abbrev Next : ℕ → ℕ → Type 0
      Next v u = Tight G 192 193 Everywhere L s v u

      -- no next mark is lower
      none_lower : {v u : ℕ} → At v → lowest v u ≡ true → u ≤ 193 → (w : ℕ) → Next v w → u ≤ w
      unfolding lowest
      none_lower {v} {u} m h l w t = go t.next
        where
          go : (w ≡ 193) ⊎ (G.Inner w × Everywhere w) → u ≤ w
          go (inl e) = omega arith
          go (inr i) =
              ⊎_elim (λ r. leb-true u w r)
              (λ r. absurd (true≢false (sym (adds_of m (corner i.0) t.edge t.sum) ∙ not-true _ r)))
              (or_cases (leb u w) _ (at_corner b T d (λ w. leb u w || not (adds v w)) h w i.0))

      walk : {v : ℕ} → At v → (us : List ℕ) → walks v us ≡ true → Walk G 192 193 Everywhere L s v (v ∷ us)
      unfolding walks
      walk m [] h = absurd (true≢false (sym h))
      walk {v} m (u ∷ []) h =
          let c = both (eqb u 193) _ h in
          let z : u ≡ 193 = eqb-true u 193 c.0 in
          let a = both (adds v 193) _ (subst (λ (w : ℕ). adds v w && lowest v w ≡ true) z c.1) in
          let t = of_adds m finish a.0 in
          subst (λ (w : ℕ). Walk G 192 193 Everywhere L s v (v ∷ w ∷ [])) (sym z)
          (arrive (record { next = inl refl; edge = t.0; sum = t.1 }) (none_lower m a.1 (omega arith)))
      walk {v} m (u ∷ w ∷ us) h =
          let c = both (corner_mark b u) _ h in
          let a = both (adds v u) _ c.1 in
          let l = both (lowest v u) _ a.1 in
          let i = corner_of b T d u c.0 in
          let t = of_adds m (corner i) a.0 in
          onward i (record { next = inr (i, tt); edge = t.0; sum = t.1 }) (none_lower m l.0 (omega (arith, corner_below T.blocks u i))) (walk (corner i) (w ∷ us) l.1)

    pub way_found : (us : List ℕ) → shows us ≡ true
        → RouteIs (records T) (ByPlaces (records T)) 0 (1 ∷ (L 192).len ∷ length (192 ∷ us) ∷ (192 ∷ us ++ replicate (194 - length (192 ∷ us)) 0))
    unfolding shows
    way_found us h =
        let a = both (relaxes_all 193) _ h in
        let c = both (each_corner b relaxes_all) _ a.1 in
        let s = settled a.0 c.0 in
        let w = walk s start us c.1 in
        let e : total (cost (records T)) (192 ∷ us) ≡ (L 192).len = ap (λ (l : Label). l.len) (walk_label G 192 193 Everywhere L s w) in
        subst (λ (n : ℕ). RouteIs (records T) (ByPlaces (records T)) 0 (1 ∷ n ∷ length (192 ∷ us) ∷ (192 ∷ us ++ replicate (194 - length (192 ∷ us)) 0))) e
        (found (run_there b T d p q run) (192 ∷ us) (walk_route G 192 193 Everywhere L s w))
