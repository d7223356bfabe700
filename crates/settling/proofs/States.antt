-- The keys and the list of three parts together: how the loop begins, what its calls ask, and that a turn keeps both.
use mathlib.Core.Path.{◌≡◌, sym, ap, ◌∙◌, subst}
use mathlib.Core.Bool.{true, false}
use mathlib.Core.List.{List}
use Prim.Native.Nat.{ℕ, ◌+◌, ◌*◌, ◌-◌, ◌<◌, ◌≤◌}
use native.Mathlib.Decide.{ℕ_discrete, dec_lt}
use native.Mathlib.Omega.{arith}
use lib.ListN.{length, set, length-set}
use lib.Seq.{get_or-set_same, get_or-set_other}
use Rattle.paths.specs.Path.{Graph}
use Rattle.geometry.specs.Words.{Point, point_of, word, place_at}
use Rattle.tables.specs.Tables.{Records, figure_of, place_of, first_end, second_end}
use Rattle.tables.specs.inner.Fit.{Fit}
use Rattle.heaps.specs.inner.Sums.{LeastOf}
use Rattle.search.specs.declared.Settled.{Settled}
use Rattle.search.specs.Network.{cost, graph}
use Rattle.search.specs.inner.LowerBound.{at_least, lower_bound}
use Rattle.search.specs.inner.Keys.{unreached, Filled, weight, Open, Searched}
use Rattle.search.specs.inner.Parts.{Places, Here, Bend, Ranked, Bends, Parted, Exchanged, Resorted, Passed, via, ahead}
use Rattle.settling.specs.inner.Turns.{EndSettled, Due, Turned}
use Rattle.search.proofs.Network.{Sized, sized, corner_below, vertex_below, not_end}
use Rattle.search.proofs.LowerBounds.{bound_consistent}
use Rattle.search.proofs.Parts.{spot_is, swapped_inverse, swapped_marks, swapped_resorted, lowered_under, parted_as, passed_as}
use Rattle.settling.proofs.Settling.{Inv, sum_at, Picked, Relaxed, begin, answer_none, answer_found, u_inner, key_small, next}

-- the list as it is before anything is settled
module _ {R : Records} {m : ℕ} (f : Fit R) (b : m < 24) {waiting spot : List ℕ} {n : ℕ} (c : Ranked R.blocks (first_end m) waiting spot n) where
  ends : Sized (graph R (λ v u. ⊥)) (first_end m) (second_end m)
  ends = sized R (λ v u. ⊥) m f b

  ranked_marks : (j : ℕ) → j < n → word waiting j < 240
  ranked_marks j h = vertex_below ends (word waiting j) (c.only j h)

  pub ranked_bends : Bends R.blocks (first_end m) waiting spot n
  ranked_bends =
      record {
        all = λ v x. let o = c.all v x in ap (word waiting) (spot_is waiting spot n v c.inverse o) ∙ o.is;
        only = λ v o. subst (Bend R.blocks (first_end m)) o.is (c.only o.place o.within);
      }

  pub ranked_parted : {bound : ℕ → ℕ} {key sums : List ℕ} → Filled key 240 unreached → length sums ≡ 194 → Parted bound waiting spot (set key (second_end m) 0) sums n n
  ranked_parted {key = key} e l =
      record {
        sized = c.sized;
        spots = c.spots;
        keyed = length-set key (second_end m) 0 ∙ e.sized;
        low = omega arith;
        few = c.few;
        marks = ranked_marks;
        inverse = c.inverse;
        fresh = λ j h. get_or-set_other key (second_end m) (word waiting j) 0 0 (not_end ends (word waiting j) (c.only j h)) ∙ e.each (word waiting j) (ranked_marks j h);
        summed = l;
        sum = λ j a b. absurd (omega arith);
      }

-- after a pass the keys of the same marks have changed
passed_relaxed : (G : Graph) (s ks : ℕ) {bound : ℕ → ℕ} {W S K W' S' K' T' : List ℕ} {u n : ℕ} → Passed bound (λ v. weight G v s + ks) (λ v. G.Edge v s) W S K W' S' K' T' u n → Relaxed G W' n K K' s ks
passed_relaxed G s ks x = lowered_under (λ v p. (x.sorted.onward v p.0, p.1)) (λ v p. (x.sorted.back v p.0, p.1)) x.keys

-- what an exchange and a pass by the mark exchanged make of the list
module _ {bound : ℕ → ℕ} {blocks W S K T : List ℕ} {first u n r : ℕ} (p : Parted bound W S K T u n) (d : Bends blocks first W S n) (a : Due W K u n r) {W₁ S₁ : List ℕ} (y : Exchanged W S W₁ S₁ r (n - 1)) where
  final : n - 1 < n
  final = omega (arith, a.before)

  resorted : Resorted W S W₁ S₁ n
  resorted = swapped_resorted y p.inverse a.before final

  pub settled_parted : Parted bound W₁ S₁ K (set T r (word T (n - 1))) u (n - 1)
  settled_parted =
      record {
        sized = y.list.sized ∙ p.sized;
        spots = y.spots ∙ p.spots;
        keyed = p.keyed;
        low = omega (arith, a.from, a.before);
        few = omega (arith, p.few);
        marks = λ j h. swapped_marks y p.inverse a.before final p.marks j (omega arith);
        inverse = λ j h. swapped_inverse y p.inverse a.before final j (omega arith);
        fresh = λ j h. ap (word K) (y.list.others j (omega (arith, a.from)) (omega (arith, a.from, a.before))) ∙ p.fresh j h;
        summed = length-set T r (word T (n - 1)) ∙ p.summed;
        sum = λ j f h. sums j f h (ℕ_discrete j r);
      }
    where
      sums : (j : ℕ) → u ≤ j → j < n - 1 → Dec (j ≡ r) → word (set T r (word T (n - 1))) j ≡ word K (word W₁ j) + 256 * bound (word W₁ j)
      sums j f h (yes q) =
          let t : word (set T r (word T (n - 1))) j ≡ word T (n - 1) = ap (word (set T r (word T (n - 1)))) q ∙ get_or-set_same T r (word T (n - 1)) 0 (omega (arith, p.summed, p.few, a.before)) in
          let w : word W₁ j ≡ word W (n - 1) = ap (word W₁) q ∙ y.list.first in
          omega (arith, t, p.sum (n - 1) (omega arith) final, ap (word K) w, ap bound w)
      sums j f h (no q) =
          let w : word W₁ j ≡ word W j = y.list.others j q (omega arith) in
          omega (arith, get_or-set_other T r j (word T (n - 1)) 0 q, p.sum j f (omega arith), ap (word K) w, ap bound w)

  was_open : (v : ℕ) → Open W₁ (n - 1) v → Open W n v
  was_open v o = resorted.back v (record { place = o.place; within = omega (arith, o.within); is = o.is })

  still_open : (v : ℕ) → (v ≡ word W r → ⊥) → Open W n v → Open W₁ (n - 1) v
  still_open v ne o =
      let b = resorted.onward v o in
      let other : b.place ≡ n - 1 → ⊥ = λ q. ne (sym b.is ∙ ap (word W₁) q ∙ y.list.second) in
      record { place = b.place; within = omega (arith, b.within, other); is = b.is }

  pub settled_bends : Bends blocks first W₁ S₁ (n - 1)
  settled_bends = record { all = λ v q. resorted.here v (d.all v q); only = λ v o. d.only v (was_open v o) }

  pub turned : {R : Records} {Clear : ℕ → ℕ → Type 0} {m : ℕ} {W' S' K' T' : List ℕ} {u' : ℕ}
      → Passed (lower_bound R (first_end m)) (λ v. weight (graph R Clear) v (word W r) + word K (word W r)) (λ v. (graph R Clear).Edge v (word W r)) W₁ S₁ K W' S' K' T' u' (n - 1)
      → Turned R Clear m W S K W' S' K' T' r n u'
  turned {R} {Clear} z =
      record {
        parted = z.parted;
        was_open = λ v o. was_open v (z.sorted.back v o);
        still_open = λ v ne o. z.sorted.onward v (still_open v ne o);
        here = λ v h. z.sorted.here v (resorted.here v h);
        keys = passed_relaxed (graph R Clear) (word W r) (word K (word W r)) z;
      }

-- by the listed places, a settled mark gives the keys and the bounds of the graph
module _ {R : Records} {places : List ℕ} {m : ℕ} (x : Places R places 240) (l : m < 24) (by : Settled) (b : by.mark < 240)
    (f : by.figure ≡ figure_of R.runs) (p : point_of by.place ≡ place_at places (2 * by.mark)) (g : point_of by.goal ≡ place_at places (2 * first_end m)) where
  way_is : (v : ℕ) → v < 240 → via places by v ≡ 256 * cost R v by.mark + 1 + by.key
  unfolding cost
  way_is v h = rw (f, p, x.each v h, x.each by.mark b)

  bound_is : (v : ℕ) → v < 240 → ahead places by v ≡ lower_bound R (first_end m) v
  unfolding lower_bound
  bound_is v h = ap (λ (o : Point). at_least o (place_at places (2 * v))) (g ∙ x.each (first_end m) (omega arith)) ∙ ap (at_least (place_of R (first_end m))) (x.each v h)

  pub asked : {W S K T : List ℕ} {u n : ℕ} → Parted (lower_bound R (first_end m)) W S K T u n → Parted (ahead places by) W S K T u n
  asked = parted_as (λ v h. sym (bound_is v h))

  pub answered : {P : ℕ → Type 0} {W S K W' S' K' T' : List ℕ} {u n : ℕ} → Passed (ahead places by) (via places by) P W S K W' S' K' T' u n
      → Passed (lower_bound R (first_end m)) (λ v. 256 * cost R v by.mark + 1 + by.key) P W S K W' S' K' T' u n
  answered = passed_as bound_is way_is

-- the list and the keys while marks are settled
pub record State (R : Records) (Clear : ℕ → ℕ → Type 0) (m : ℕ) (waiting spot sums : List ℕ) (u n : ℕ) (key : List ℕ) : Type 0 where
  pub inv : Inv (graph R Clear) (first_end m) (second_end m) (lower_bound R (first_end m)) waiting n key
  pub parted : Parted (lower_bound R (first_end m)) waiting spot key sums u n
  pub all : (v : ℕ) → Bend R.blocks (first_end m) v → Here waiting spot v

-- once the second end is settled
pub state_first : {R : Records} {Clear : ℕ → ℕ → Type 0} {m : ℕ} → Fit R → m < 24 → {waiting spot key waiting' spot' key' sums' : List ℕ} {u n : ℕ}
    → Ranked R.blocks (first_end m) waiting spot n → Filled key 240 unreached
    → EndSettled R Clear m waiting spot key waiting' spot' key' sums' u n
    → State R Clear m waiting' spot' sums' u n key'
state_first {R} {Clear} {m} f b {key = key} {waiting' = waiting'} {key' = key'} {n = n} c e x =
    record {
      inv =
          begin (sized R Clear m f b) (bound_consistent R Clear (first_end m)) waiting' n key key' c.few
          (λ v o. (ranked_bends f b c).only v (x.sorted.back v o))
          (λ v q. x.sorted.onward v (c.all v q))
          e
          (passed_relaxed (graph R Clear) (second_end m) 0 x);
      parted = x.parted;
      all = λ v q. x.sorted.here v ((ranked_bends f b c).all v q);
    }

module _ {R : Records} {Clear : ℕ → ℕ → Type 0} {m : ℕ} {waiting spot sums : List ℕ} {u n : ℕ} {key : List ℕ} (x : State R Clear m waiting spot sums u n key) where
  pub bends : Bends R.blocks (first_end m) waiting spot n
  bends = record { all = x.all; only = x.inv.only }

  module _ {r : ℕ} (p : LeastOf (word sums) u n r) where
    sum : r < n → word sums r ≡ sum_at (lower_bound R (first_end m)) key (word waiting r)
    sum l = x.parted.sum r p.from l

    picked : Picked (lower_bound R (first_end m)) key waiting n r
    picked =
        record {
          within = p.within;
          reached = λ g. omega (arith, p.reached g, sum g);
          least = λ g j h.
              elim (dec_lt j u) [
                | yes f ↦ omega (arith, p.reached g, sum g, x.parted.fresh j f)
                | no f ↦ omega (arith, p.least g j (omega arith) h, sum g, x.parted.sum j (omega arith) h)
              ];
          rest = λ e j h. elim (dec_lt j u) [ yes f ↦ omega (arith, x.parted.fresh j f) | no f ↦ omega (arith, p.none e j (omega arith) h, x.parted.sum j (omega arith) h) ];
        }

    pub none_found : n ≤ r → Searched (graph R Clear) (first_end m) (second_end m) key false
    none_found l = answer_none x.inv r picked l

    pub way_found : r < n → word key (first_end m) ≤ word sums r → Searched (graph R Clear) (first_end m) (second_end m) key true
    way_found l q = answer_found x.inv r picked l (omega (arith, q, sum l))

    -- the mark at r is settled
    module _ (l : r < n) (before : word sums r < word key (first_end m)) where
      before_first : sum_at (lower_bound R (first_end m)) key (word waiting r) < word key (first_end m)
      before_first = omega (arith, before, sum l)

      corner : word waiting r < 192
      corner = corner_below R.blocks (word waiting r) (u_inner x.inv r picked l before_first)

      pub settled_due : Due waiting key u n r
      settled_due = record { from = p.from; before = l; corner = corner; small = key_small x.inv r picked l before_first }

      pub state_next : {W S T key' : List ℕ} {u' : ℕ} → Turned R Clear m waiting spot key W S key' T r n u' → State R Clear m W S T u' (n - 1) key'
      state_next y =
          record {
            inv = next x.inv r picked l before_first y.was_open y.still_open y.keys;
            parted = y.parted;
            all = λ v q. y.here v (x.all v q);
          }
