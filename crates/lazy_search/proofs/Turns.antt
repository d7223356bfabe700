-- A turn of the lazy search: what its loop keeps, and what its calls ask and give.
use mathlib.Core.Path.{◌≡◌, refl, sym, ap, ◌∙◌, subst}
use mathlib.Core.Logic.{◌⊎◌, inl, inr, ⊎_elim}
use mathlib.Core.Bool.{Bool, true, false}
use mathlib.Core.List.{List}
use Prim.Native.Nat.{ℕ, ◌+◌, ◌*◌, ◌-◌, ◌≤◌, ◌<◌}
use native.Mathlib.Decide.{dec_lt}
use native.Mathlib.Omega.{arith}
use lib.ListN.{length, set}
use lib.Seq.{get_or-set_other}
use Rattle.paths.specs.Path.{Graph}
use Rattle.geometry.specs.Words.{word}
use Rattle.tables.specs.Tables.{Records, first_end, second_end}
use Rattle.tables.specs.inner.Fit.{Fit}
use Rattle.search.specs.inner.LowerBound.{lower_bound}
use Rattle.search.specs.inner.Keys.{unreached, whole, Vertex, Searched}
use Rattle.heaps.specs.inner.Marks.{Among, Swapped}
use Rattle.heaps.specs.inner.Sums.{Least, Comparable, Sooner}
use Rattle.heaps.specs.inner.Heaps.{Heap, Rearranged, Heapable}
use Rattle.heaps.proofs.Marks.{among}
use Rattle.heaps.proofs.Heaps.{heap_top, heap_from, heap_kept}
use Rattle.lazy_search.specs.inner.Zones.{Zones}
use Rattle.lazy_search.specs.inner.Lazy.{straights, network, Exact, Eased, Listing, Prepared, Testable, Easing}
use Rattle.lazy_search.proofs.Lazy.{Inv, Passes, Apart, Same, inv_same, whole_small, hope_small, settled_small, none_left, start_next, tried_next, settled_next}
use Rattle.lazy_search.proofs.Zones.{parts_apart, goes_over, part_same, zones_tried, zones_settled}
use Rattle.lazy_search.proofs.Begin.{begin, begin_zones, begin_bound}

-- the list has the zones of the invariant, and the bounds are those of its marks
pub record Turn (R : Records) (bends : List ℕ) (n m : ℕ) (bounds order key : List ℕ) (hoped waiting : ℕ) : Type 0 where
  pub zones : Zones order hoped waiting (n + 2)
  pub inv : Inv (network R bends n) (first_end m) (second_end m) (lower_bound R (first_end m)) (lower_bound R (second_end m)) (Among order 0 hoped) (Among order hoped waiting) (Among order waiting (n + 2)) waiting key
  pub sized : length bounds ≡ 240
  pub bound : (v : ℕ) → Vertex (network R bends n) (first_end m) v → word bounds v ≡ 256 * lower_bound R (first_end m) v

pub first_turn : {R : Records} {order : List ℕ} {n m : ℕ} {bounds key : List ℕ} → Fit R → m < 24 → Listing order n m → Prepared R order n m bounds key → Turn R order n m bounds order key (n + 1) (n + 1)
first_turn {R} {order} {n} {m} f l b p =
    record { zones = begin_zones R m f l b; inv = begin R m f l b p; sized = p.looked.sized; bound = begin_bound R m f l b p }

module _ {R : Records} {bends : List ℕ} {n m : ℕ} {bounds order key : List ℕ} {hoped waiting : ℕ} (t : Turn R bends n m bounds order key hoped waiting) where
  abbrev G : Graph
  G = network R bends n

  abbrev lead : ℕ → ℕ
  lead = lower_bound R (first_end m)

  vertex : (v : ℕ) → Among order 0 hoped v ⊎ Among order hoped waiting v → Vertex G (first_end m) v
  vertex v (inl h) = t.inv.hoped_only v h
  vertex v (inr a) = t.inv.tried_only v a

  -- the sum that the code compares
  sum : (v : ℕ) → Among order 0 hoped v ⊎ Among order hoped waiting v → whole bounds key v ≡ word key v + 256 * lead v
  sum v w = omega (arith, t.bound v (vertex v w))

  sum_small : (v : ℕ) → Among order 0 hoped v ⊎ Among order hoped waiting v → whole bounds key v ≤ 4294967295
  sum_small v w = omega (arith, sum v w, whole_small t.inv v w)

  pub compare_hoped : Comparable bounds key order 0 hoped
  compare_hoped =
      record {
        listed = omega (arith, t.zones.sized, t.zones.start, t.zones.rest, t.zones.few);
        from = omega arith;
        keyed = t.inv.keyed;
        bounded = t.sized;
        marks = λ j a b. t.zones.marks j (omega (arith, t.zones.start, t.zones.rest));
        small = λ j a b. sum_small (word order j) (inl (among order 0 hoped j a b));
      }

  pub compare_tried : Comparable bounds key order hoped waiting
  compare_tried =
      record {
        listed = omega (arith, t.zones.sized, t.zones.rest, t.zones.few);
        from = t.zones.start;
        keyed = t.inv.keyed;
        bounded = t.sized;
        marks = λ j a b. t.zones.marks j (omega (arith, t.zones.rest));
        small = λ j a b. sum_small (word order j) (inr (among order hoped waiting j a b));
      }

  -- the least of the marks hoped for is at the first place
  pub heap_least : Heap bounds key order 0 hoped → Least bounds key order 0 hoped 0
  heap_least h =
      record {
        from = omega arith;
        within = omega arith;
        reached = λ l. let a = among order 0 hoped 0 (omega arith) l in omega (arith, sum (word order 0) (inl a), hope_small t.inv (word order 0) a);
        least = λ l j a b. heap_top h j b;
        none = λ e j a b. absurd (omega arith);
      }

  pub heapable : Heapable bounds key order hoped
  heapable = record { sums = compare_hoped; few = omega (arith, t.zones.start, t.zones.rest, t.zones.few) }

  -- the marks hoped for change places
  pub rearranged_turn : {order' : List ℕ} → Rearranged order order' hoped → Turn R bends n m bounds order' key hoped waiting
  rearranged_turn {order'} x =
      record {
        zones =
            record {
              sized = x.sized ∙ t.zones.sized;
              start = t.zones.start;
              rest = t.zones.rest;
              few = t.zones.few;
              marks = λ i l. elim (dec_lt i hoped) [
                | yes d ↦ let a = x.back (word order' i) (among order' 0 hoped i (omega arith) d) in omega (arith, a.is, t.zones.marks a.place (omega (arith, a.before, t.zones.start, t.zones.rest)))
                | no d ↦ omega (arith, x.others i (omega arith), t.zones.marks i l)
              ];
              once = x.once (n + 2) (omega (arith, t.zones.start, t.zones.rest)) t.zones.once;
            };
        inv = inv_same (record { to = x.to; back = x.back }) (later hoped waiting (omega arith)) (later waiting (n + 2) t.zones.start) t.inv;
        sized = t.sized;
        bound = t.bound;
      }
    where
      later : (lo hi : ℕ) → hoped ≤ lo → Same (Among order lo hi) (Among order' lo hi)
      later lo hi l =
          record {
            to = λ v a. record { place = a.place; from = a.from; before = a.before; is = x.others a.place (omega (arith, a.from)) ∙ a.is };
            back = λ v a. record { place = a.place; from = a.from; before = a.before; is = sym (x.others a.place (omega (arith, a.from))) ∙ a.is };
          }

  some : 1 ≤ waiting
  some = ⊎_elim (λ a. omega (arith, a.before, t.zones.start)) (λ a. omega (arith, a.before)) t.inv.target

  hoped_apart : Apart (Among order 0 hoped) (Among order hoped waiting)
  hoped_apart = parts_apart 0 hoped waiting t.zones.once (omega (arith, t.zones.start, t.zones.rest)) (omega (arith, t.zones.rest))

  tried_apart : Apart (Among order hoped waiting) (Among order waiting (n + 2))
  tried_apart = parts_apart hoped waiting (n + 2) t.zones.once (omega (arith, t.zones.rest)) (omega arith)

  first_apart : Apart (Among order 0 hoped) (Among order waiting (n + 2))
  first_apart v a b =
      tried_apart_all v (record { place = a.place; from = a.from; before = omega (arith, a.before, t.zones.start); is = a.is }) b
    where
      tried_apart_all : Apart (Among order 0 waiting) (Among order waiting (n + 2))
      tried_apart_all = parts_apart 0 waiting (n + 2) t.zones.once (omega (arith, t.zones.rest)) (omega arith)

  module _ {hope next : ℕ} (h : Least bounds key order 0 hoped hope) (x : Least bounds key order hoped waiting next) {b : Bool} (s : Sooner bounds key order hope hoped next waiting b) where
    -- nothing is left that is reached
    pub answer_none : b ≡ false → waiting ≤ next → Searched G (first_end m) (second_end m) key false
    answer_none e l = none_left t.inv no_hope no_way_lem
      where
        no_hope : (v : ℕ) → Among order 0 hoped v → ⊥
        no_hope v a =
            let q : hope ≡ hoped = omega (arith, s.none e l, h.within) in
            omega (
              arith,
              h.none q a.place a.from a.before,
              ap (whole bounds key) a.is,
              sum v (inl a),
              hope_small t.inv v a,
            )

        no_way_lem : (v : ℕ) → Among order hoped waiting v → unreached ≤ word key v + 256 * lead v
        no_way_lem v a =
            let q : next ≡ waiting = omega (arith, x.within) in
            omega (arith, x.none q a.place a.from a.before, ap (whole bounds key) a.is, sum v (inr a))

    module _ (e : b ≡ false) (l : next < waiting) where
      abbrev u : ℕ
      u = word order next

      u_tried : Among order hoped waiting u
      u_tried = among order hoped waiting next x.from l

      u_reached : word key u < unreached
      u_reached = omega (arith, x.reached l)

      -- the mark at `next` is the least of all that are left
      least_left : (v : ℕ) → Among order 0 hoped v ⊎ Among order hoped waiting v → word key u + 256 * lead u ≤ word key v + 256 * lead v
      least_left v (inr a) =
          omega (arith, x.least l a.place a.from a.before, ap (whole bounds key) a.is, sum v (inr a), sum u (inr u_tried))
      least_left v (inl a) =
          let i : hope < hoped = ⊎_elim (λ q. q) (λ q. absurd (omega (arith, h.none q a.place a.from a.before, ap (whole bounds key) a.is, sum v (inl a), hope_small t.inv v a))) inside in
          omega (arith, s.later e i l, h.least i a.place a.from a.before, ap (whole bounds key) a.is, sum v (inl a), sum u (inr u_tried))
        where
          inside : (hope < hoped) ⊎ (hope ≡ hoped)
          inside = elim (dec_lt hope hoped) [ yes d ↦ inl d | no d ↦ inr (omega (arith, h.within)) ]

      pub answer_found : u ≡ first_end m → Searched G (first_end m) (second_end m) key true
      answer_found q =
          start_next t.inv some (subst (Among order hoped waiting) q u_tried) (omega (arith, u_reached, ap (word key) q))
          (λ v w. omega (arith, least_left v w, ap (λ (y : ℕ). word key y + 256 * lead y) q, t.inv.leads.none))

      module _ (ne : u ≡ first_end m → ⊥) {order' : List ℕ} (y : Swapped order order' next (waiting - 1)) where
        over : Passes (Among order hoped waiting) (Among order waiting (n + 2)) (Among order' hoped (waiting - 1)) (Among order' (waiting - 1) (n + 2)) u
        over = goes_over t.zones.once y l (omega (arith, t.zones.rest)) hoped (n + 2) x.from (omega (arith, t.zones.rest)) (omega arith)

        same : Same (Among order 0 hoped) (Among order' 0 hoped)
        same = part_same t.zones.once y l (omega (arith, t.zones.rest)) 0 hoped (λ k a c. (λ q. omega (arith, x.from), λ q. omega (arith, x.from)))

        new_zones : Zones order' hoped (waiting - 1) (n + 2)
        new_zones = zones_settled t.zones x.from l y

        pub easing : Easing order' hoped (waiting - 1) key u (word key u)
        easing =
            record {
              listed = omega (arith, new_zones.sized, new_zones.rest, new_zones.few);
              from = omega (arith, x.from);
              keyed = t.inv.keyed;
              marks = λ j a c. new_zones.marks j (omega (arith, new_zones.rest));
              below = t.zones.marks next (omega (arith, t.zones.rest));
              other = λ a. (over.lost u a).1 refl;
              small = omega (arith, u_reached);
            }

        module _ {key' : List ℕ} (d : Eased (straights R) (Among order' hoped (waiting - 1)) key key' u (word key u)) where
          pub settled_turn : Turn R bends n m bounds order' key' hoped (waiting - 1)
          settled_turn =
              record {
                zones = new_zones;
                inv = settled_next t.inv over same ne u_reached least_left hoped_apart tried_apart (record { sized = d.sized; down = d.down; short = d.short; came = d.came }) some;
                sized = t.sized;
                bound = t.bound;
              }

          pub settled_heap : Heap bounds key order 0 hoped → Heap bounds key' order' 0 hoped
          settled_heap =
              heap_kept (omega arith) (λ j a c. y.others j (λ q. omega (arith, x.from)) (λ q. omega (arith, x.from)))
              (λ j a c. ⊎_elim (λ q. q) (λ w. absurd (hoped_apart (word order j) (among order 0 hoped j a c) (over.lost (word order j) w.0).0)) (d.came (word order j)))

  -- the mark at `hope` is tried
  module _ {hope : ℕ} (l : hope < hoped) {order' : List ℕ} (y : Swapped order order' hope (hoped - 1)) where
    abbrev w : ℕ
    w = word order hope

    w_hoped : Among order 0 hoped w
    w_hoped = among order 0 hoped hope (omega arith) l

    to_tried : Passes (Among order 0 hoped) (Among order hoped waiting) (Among order' 0 (hoped - 1)) (Among order' (hoped - 1) waiting) w
    to_tried = goes_over t.zones.once y l (omega (arith, t.zones.start, t.zones.rest)) 0 waiting (omega arith) t.zones.start (omega (arith, t.zones.rest))

    settled_same : Same (Among order waiting (n + 2)) (Among order' waiting (n + 2))
    settled_same =
        part_same t.zones.once y l (omega (arith, t.zones.start, t.zones.rest)) waiting (n + 2)
        (λ k a c. (λ q. omega (arith, t.zones.start), λ q. omega (arith, t.zones.start)))

    tried_zones : Zones order' (hoped - 1) waiting (n + 2)
    tried_zones = zones_tried t.zones l y

    pub testable : Testable order' waiting (n + 2) key w
    testable =
        record {
          listed = omega (arith, tried_zones.sized, tried_zones.few);
          from = omega (arith, tried_zones.rest);
          keyed = t.inv.keyed;
          below = t.zones.marks hope (omega (arith, t.zones.start, t.zones.rest));
          marks = λ j a c. tried_zones.marks j c;
          other = λ a. first_apart w w_hoped (settled_same.back w a);
          small = λ s a. omega (arith, settled_small t.inv s (settled_same.back s a));
        }

    pub tried_turn : {k : ℕ} → Exact (straights R) (Among order' waiting (n + 2)) key w k → Turn R bends n m bounds order' (set key w k) (hoped - 1) waiting
    tried_turn {k} x =
        record {
          zones = tried_zones;
          inv = tried_next t.inv to_tried settled_same (λ a. hoped_apart w w_hoped a) (λ a. first_apart w w_hoped a) exact;
          sized = t.sized;
          bound = t.bound;
        }
      where
        exact : Exact G (Among order waiting (n + 2)) key w k
        exact =
            record {
              down = x.down;
              short = λ s a g. x.short s (settled_same.to s a) g;
              came = ⊎_elim (λ q. inl q) (λ b. inr (record { mark = b.mark; has = settled_same.back b.mark b.has; edge = b.edge; sum = b.sum })) x.came;
            }

    -- the others that are hoped for are a heap but for the one that has come to the first place
    pub tried_heap : (k : ℕ) → hope ≡ 0 → Heap bounds key order 0 hoped → Heap bounds (set key w k) order' 1 (hoped - 1)
    tried_heap k q h =
        heap_kept (omega arith) stays (λ j a c. get_or-set_other key w (word order j) k 0 (λ e. (to_tried.lost (word order j) (still j a c)).1 e))
        (heap_from (omega arith) h)
      where
        stays : (j : ℕ) → 1 ≤ j → j < hoped - 1 → word order' j ≡ word order j
        stays j a c = y.others j (λ e. omega arith) (λ e. omega arith)

        still : (j : ℕ) → 1 ≤ j → j < hoped - 1 → Among order' 0 (hoped - 1) (word order j)
        still j a c = record { place = j; from = omega arith; before = c; is = stays j a c }
