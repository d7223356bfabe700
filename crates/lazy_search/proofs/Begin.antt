-- How the lazy search begins: every bending place and the first end are hoped for, and the second end is settled.
use mathlib.Core.Path.{◌≡◌, refl, sym, ap, ◌∙◌}
use mathlib.Core.Logic.{◌⊎◌, inl, inr, ⊎_elim}
use mathlib.Core.List.{List}
use Prim.Native.Nat.{ℕ, ◌+◌, ◌*◌, ◌≤◌, ◌<◌}
use native.Mathlib.Decide.{ℕ_discrete, dec_lt}
use native.Mathlib.Omega.{arith}
use lib.ListN.{set, length-set}
use lib.Seq.{get_or-set_same, get_or-set_other}
use Rattle.paths.specs.Path.{Graph}
use Rattle.paths.specs.inner.LowerBound.{ConsistentBound}
use Rattle.geometry.specs.Words.{Point, word}
use Rattle.lengths.specs.Length.{gap, length_of}
use Rattle.lengths.specs.Charge.{charge}
use Rattle.tables.specs.Tables.{Records, figure_of, place_of, first_end, second_end}
use Rattle.tables.specs.inner.Fit.{Fit}
use Rattle.visibility.specs.Visibility.{ByPlaces}
use Rattle.search.specs.Network.{cost}
use Rattle.search.specs.inner.LowerBound.{lower_bound}
use Rattle.search.specs.inner.Keys.{unreached, Filled, Open, Listed, Looked, Vertex}
use Rattle.search.proofs.Network.{Sized, sized}
use Rattle.search.proofs.Steps.{open_dec}
use Rattle.search.proofs.LowerBounds.{bound_consistent}
use Rattle.heaps.specs.inner.Marks.{Among, Once}
use Rattle.lazy_search.specs.inner.Zones.{Zones}
use Rattle.lazy_search.specs.inner.Lazy.{straights, network, Taken, Listing, Prepared}
use Rattle.lazy_search.proofs.Lazy.{Backward, Inv}

gap_sym : (a b : ℕ) → gap a b ≡ gap b a
gap_sym a b = omega arith

length_sym : (p q : Point) → length_of p q ≡ length_of q p
unfolding length_of
length_sym p q = rw (gap_sym p.east q.east, gap_sym p.north q.north) refl

-- what a straight costs is the same both ways round
cost_sym : (R : Records) (v u : ℕ) → cost R v u ≡ cost R u v
unfolding cost
cost_sym R v u = ap (charge (figure_of R.runs)) (length_sym (place_of R v) (place_of R u))

module _ (R : Records) (m : ℕ) (f : Fit R) (l : m < 24) where
  base : Sized (straights R) (first_end m) (second_end m)
  base = sized R (ByPlaces R) m f l

  pub backward : (bends : List ℕ) (n : ℕ) → Backward (network R bends n) (second_end m) (lower_bound R (second_end m))
  backward bends n =
      let a = bound_consistent R (ByPlaces R) (second_end m) in
      record { none = a.none; step = λ v u. omega (arith, a.step u v, cost_sym R u v) }

  module _ {order : List ℕ} {n : ℕ} (b : Listing order n m) where
    abbrev G : Graph
    G = network R order n

    pub network_sized : Sized G (first_end m) (second_end m)
    network_sized =
        record {
          inner_below = λ u a. omega (arith, b.bends.corners a.place a.before, a.is);
          cost_small = base.cost_small;
          start_above = base.start_above;
          start_below = base.start_below;
          end_above = base.end_above;
          end_below = base.end_below;
          apart = base.apart;
        }

    pub leads : ConsistentBound G (first_end m) (lower_bound R (first_end m))
    leads = let a = bound_consistent R (ByPlaces R) (first_end m) in record { none = a.none; step = a.step }

    -- what stands at each place
    kind : (i : ℕ) → i < n + 2 → (i < n) ⊎ ((i ≡ n) ⊎ (i ≡ n + 1))
    kind i c = elim (dec_lt i n) [ yes d ↦ inl d | no d ↦ inr (elim (ℕ_discrete i n) [ yes q ↦ inl q | no q ↦ inr (omega arith) ]) ]

    value : (i : ℕ) → i < n + 2 → ((i < n) × (word order i < 192)) ⊎ (((i ≡ n) × (word order i ≡ first_end m)) ⊎ ((i ≡ n + 1) × (word order i ≡ second_end m)))
    value i c =
        ⊎_elim (λ d. inl (d, b.bends.corners i d))
        (λ w. inr (⊎_elim (λ q. inl (q, ap (word order) q ∙ b.first)) (λ q. inr (q, ap (word order) q ∙ b.second)) w)) (kind i c)

    marks : (i : ℕ) → i < n + 2 → word order i < 240
    marks i c = ⊎_elim (λ d. omega (arith, d.1)) (λ w. ⊎_elim (λ q. omega (arith, q.1)) (λ q. omega (arith, q.1)) w) (value i c)

    once : Once order (n + 2)
    once i j c d e = go (value i c) (value j d)
      where
        go : ((i < n) × (word order i < 192)) ⊎ (((i ≡ n) × (word order i ≡ first_end m)) ⊎ ((i ≡ n + 1) × (word order i ≡ second_end m)))
            → ((j < n) × (word order j < 192)) ⊎ (((j ≡ n) × (word order j ≡ first_end m)) ⊎ ((j ≡ n + 1) × (word order j ≡ second_end m))) → i ≡ j
        go (inl p) (inl q) = b.bends.once i j p.0 q.0 e
        go (inl p) (inr (inl q)) = absurd (omega (arith, p.1, q.1))
        go (inl p) (inr (inr q)) = absurd (omega (arith, p.1, q.1))
        go (inr (inl p)) (inl q) = absurd (omega (arith, p.1, q.1))
        go (inr (inl p)) (inr (inl q)) = omega (arith, p.0, q.0)
        go (inr (inl p)) (inr (inr q)) = absurd (omega (arith, p.1, q.1))
        go (inr (inr p)) (inl q) = absurd (omega (arith, p.1, q.1))
        go (inr (inr p)) (inr (inl q)) = absurd (omega (arith, p.1, q.1))
        go (inr (inr p)) (inr (inr q)) = omega (arith, p.0, q.0)

    pub begin_zones : Zones order (n + 1) (n + 1) (n + 2)
    begin_zones =
        record { sized = b.bends.sized; start = omega arith; rest = omega arith; few = omega (arith, b.bends.few); marks = marks; once = once }

    pub begin_listed : Listed order (n + 1)
    begin_listed = record { marks = λ j c. marks j (omega arith); sized = b.bends.sized; few = omega (arith, b.bends.few) }

    hoped_vertex : (v : ℕ) → Among order 0 (n + 1) v → Vertex G (first_end m) v
    hoped_vertex v a =
        elim (ℕ_discrete a.place n) [
          | yes q ↦ inl (sym a.is ∙ ap (word order) q ∙ b.first)
          | no q ↦ inr (record { place = a.place; from = a.from; before = omega (arith, a.before); is = a.is })
        ]

    vertex_hoped : (v : ℕ) → Vertex G (first_end m) v → Among order 0 (n + 1) v
    vertex_hoped v (inl q) = record { place = n; from = omega arith; before = omega arith; is = b.first ∙ sym q }
    vertex_hoped v (inr a) = record { place = a.place; from = a.from; before = omega (arith, a.before); is = a.is }

    settled_end : (v : ℕ) → Among order (n + 1) (n + 2) v → v ≡ second_end m
    settled_end v a = let q : a.place ≡ n + 1 = omega (arith, a.from, a.before) in sym a.is ∙ ap (word order) q ∙ b.second

    none_tried : {A : Type 0} (v : ℕ) → Among order (n + 1) (n + 1) v → A
    none_tried v a = absurd (omega (arith, a.from, a.before))

    -- a mark that is not listed
    unlisted : (v : ℕ) → (v ≡ second_end m → ⊥) → (Among order 0 (n + 1) v → ⊥) → Among order 0 (n + 2) v → ⊥
    unlisted v e h a =
        elim (dec_lt a.place (n + 1)) [
          | yes d ↦ h (record { place = a.place; from = a.from; before = d; is = a.is })
          | no d ↦ e (settled_end v (record { place = a.place; from = omega arith; before = a.before; is = a.is }))
        ]

    -- what the code prepares
    pub prepared : {bounds backs key key' : List ℕ} → Filled key 240 unreached → Looked (lower_bound R (first_end m)) order (n + 1) bounds
        → Looked (lower_bound R (second_end m)) order (n + 1) backs → Taken backs order (n + 1) key key' → Prepared R order n m bounds (set key' (second_end m) 0)
    prepared {bounds} {backs} {key} {key'} e x y t =
        record {
          looked = x;
          hoped = record { sized = length-set key' (second_end m) 0 ∙ t.sized ∙ e.sized; each = λ j c. get_or-set_other key' (second_end m) (word order j) 0 0 (earlier j c) ∙ t.each j c ∙ y.each j c };
          end_zero = get_or-set_same key' (second_end m) 0 0 (omega (arith, t.sized, e.sized));
          others = λ v c h.
              get_or-set_other key' (second_end m) v 0 0 (λ q. h (record { place = n + 1; from = omega arith; before = omega arith; is = b.second ∙ sym q }))
              ∙ t.others v (λ a. h (record { place = a.place; from = a.from; before = omega (arith, a.before); is = a.is })) ∙ e.each v c;
        }
      where
        earlier : (j : ℕ) → j < n + 1 → word order j ≡ second_end m → ⊥
        earlier j c q = ⊎_elim (λ d. omega (arith, d.1)) (λ w. ⊎_elim (λ r. omega (arith, r.1)) (λ r. omega (arith, r.0)) w) (value j (omega arith))

    module _ {bounds key : List ℕ} (p : Prepared R order n m bounds key) where
      hope_key : (v : ℕ) → Among order 0 (n + 1) v → word key v ≡ 256 * lower_bound R (second_end m) v
      hope_key v a = ap (word key) (sym a.is) ∙ p.hoped.each a.place a.before ∙ ap (λ (w : ℕ). 256 * lower_bound R (second_end m) w) a.is

      pub begin_bound : (v : ℕ) → Vertex G (first_end m) v → word bounds v ≡ 256 * lower_bound R (first_end m) v
      begin_bound v x =
          let a = vertex_hoped v x in
          ap (word bounds) (sym a.is) ∙ p.looked.each a.place a.before ∙ ap (λ (w : ℕ). 256 * lower_bound R (first_end m) w) a.is

      bound_top : (v : ℕ) → v < 240 → lower_bound R (second_end m) v ≤ 46340
      bound_top v c =
          let k = backward order n in
          omega (arith, k.step v (second_end m), k.none, network_sized.cost_small v (second_end m) c network_sized.end_below)

      opened : (v : ℕ) → Among order 0 (n + 1) v → Open order (n + 1) v
      opened v a = record { place = a.place; within = a.before; is = a.is }

      -- a mark that is reached is hoped for, or the second end
      pub known : (v : ℕ) → v < 240 → Among order 0 (n + 1) v ⊎ ((v ≡ second_end m) ⊎ (word key v ≡ unreached))
      known v c =
          elim (open_dec order (n + 1) v) [
            | yes o ↦ inl (record { place = o.place; from = omega arith; before = o.within; is = o.is })
            | no o ↦ inr (elim (ℕ_discrete v (second_end m)) [ yes q ↦ inl q | no q ↦ inr (p.others v c (unlisted v q (λ a. o (opened v a)))) ])
          ]

      pub begin : Inv G (first_end m) (second_end m) (lower_bound R (first_end m)) (lower_bound R (second_end m)) (Among order 0 (n + 1)) (Among order (n + 1) (n + 1)) (Among order (n + 1) (n + 2)) (n + 1) key
      begin =
          record {
            sized = network_sized;
            leads = leads;
            backs = backward order n;
            keyed = p.hoped.sized;
            few = omega (arith, b.bends.few);
            hoped_only = hoped_vertex;
            tried_only = λ v a. none_tried v a;
            target = inl (vertex_hoped (first_end m) (inl refl));
            inner = λ v a. inl (settled_end v a);
            end_done = record { place = n + 1; from = omega arith; before = omega arith; is = b.second };
            covered = λ v x. inl (vertex_hoped v x);
            top = λ v c. ⊎_elim (λ a. omega (arith, hope_key v a, bound_top v c)) (λ w. ⊎_elim (λ q. omega (arith, ap (word key) q, p.end_zero)) (λ q. omega arith) w) (known v c);
            end_zero = p.end_zero;
            reached = λ v c e h. ⊎_elim (hoped_vertex v) (λ w. ⊎_elim (λ q. absurd (e q)) (λ q. absurd (omega arith)) w) (known v c);
            hope = hope_key;
            floor = λ v w. ⊎_elim (λ a. none_tried v a) (λ a. let q = settled_end v a in omega (arith, ap (lower_bound R (second_end m)) q, (backward order n).none)) w;
            order = λ s v j a w. absurd (omega (arith, settled_end s a, network_sized.inner_below s j));
            relaxed = λ v s w a g. ⊎_elim (λ t. none_tried v t) (λ d. let q = settled_end v d in omega (arith, ap (word key) q, p.end_zero)) w;
            attained = λ v a h. none_tried v a;
            chained = λ v e a. absurd (e (settled_end v a));
          }
