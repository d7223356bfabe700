-- The walk by the labels keeps the best path.
use mathlib.Core.Path.{◌≡◌, refl, sym, ap, ◌∙◌, subst}
use mathlib.Core.List.{List, [], ◌∷◌, ◌++◌, append_assoc}
use Prim.Native.Nat.{ℕ, zero, suc, ◌+◌, ◌-◌, ◌/◌, ◌≤◌, ◌<◌}
use native.Mathlib.Omega.{arith}
use lib.ListN.{length, take, set, length-set, length-append}
use lib.Seq.{take-suc-set}
use Rattle.geometry.specs.Words.{word}
use Rattle.nets.specs.Net.{Net, Path, arrive, onward, changes, cost}
use Rattle.nets.specs.inner.Keys.{key_from, Attained, Relaxed}
use Rattle.nets.proofs.Sums.{key_more, key_cost, changes_few}
use Rattle.nets.proofs.Cuts.{Sized}
use Rattle.nets.proofs.Labels.{Walk, stop, move, reached, walk_path, walk_key, walk_best, short, weight_up}
use Rattle.std.specs.Prelude.{Option, Some}
use Rattle.crossings.specs.inner.Directions.{Target}
use Rattle.crossings.specs.inner.Charts.{step_of, axis_by}
use Rattle.crossings.proofs.Directions.{step_at}
use Rattle.sweeps.specs.inner.Keys.{key_at, unreached, Lanes, Searched}
use Rattle.sweeps.proofs.Carrying.{axis_small}
use Rattle.walks.specs.inner.Paths.{moved_by, visits}
use Rattle.walks.specs.inner.Labels.{label_at, NextIs, Trailed}
use Rattle.walks.proofs.Labelling.{Inside, Mapped, inside_below, label_attained}
use Rattle.walks.proofs.Nexts.{relaxed_here}

-- where a trail leads
unfoldable pub last_of : ℕ → List ℕ → ℕ
last_of v [] = v
last_of v (d ∷ ds) = last_of (moved_by d v) ds

visits_snoc : (v : ℕ) (ds : List ℕ) (d : ℕ) → visits v (ds ++ (d ∷ [])) ≡ visits v ds ++ (moved_by d (last_of v ds) ∷ [])
unfolding visits last_of
visits_snoc v [] d = refl
visits_snoc v (e ∷ ds) d = ap (λ (l : List ℕ). v ∷ l) (visits_snoc (moved_by e v) ds d)

last_snoc : (v : ℕ) (ds : List ℕ) (d : ℕ) → last_of v (ds ++ (d ∷ [])) ≡ moved_by d (last_of v ds)
unfolding last_of
last_snoc v [] d = refl
last_snoc v (e ∷ ds) d = last_snoc (moved_by e v) ds d

pub path_stop : {G : Net} {end v : ℕ} {us : List ℕ} → Path G end v us → G.Stop end
path_stop (arrive s) = s
path_stop (onward s p) = path_stop p

path_within : {G : Net} {end v : ℕ} {us : List ℕ} → Sized G 4356 → end < 4356 → Path G end v us → (i : ℕ) → i < length us → word us i < 4356
path_within z e (arrive s) zero h = e
path_within z e (arrive s) (suc i) h = absurd (omega arith)
path_within z e (onward {v} {u} s p) zero h = z.from_below v u s
path_within z e (onward s p) (suc i) h = path_within z e p i (omega arith)

path_one : {G : Net} {end v : ℕ} {us : List ℕ} → Path G end v us → 1 ≤ length us
path_one (arrive s) = omega arith
path_one (onward s p) = omega arith

path_two : {G : Net} {end v : ℕ} {us : List ℕ} → (v ≡ end → ⊥) → Path G end v us → 2 ≤ length us
path_two n (arrive s) = absurd (n refl)
path_two n (onward s p) = omega (arith, path_one p)

pub on_line_lem : {x u n : ℕ} → x ≡ u → u / 66 < n → x / 66 < n
on_line_lem e l = rw e l

-- the crossing that a step leads to, where there is one
pub led_to : {o : Option ℕ} {n u : ℕ} → Target o n → o ≡ Some u → u ≡ n
led_to t e = (rw e at t).0

-- n crossings are kept, the last of them v, which a step along a led to
pub record Going (G : Net) (F : Lanes) (nx ny : ℕ) (L : ℕ → ℕ → ℕ) (start : ℕ) (trail : List ℕ) (v a key n : ℕ) : Type 0 where
  pub sized : length trail ≡ 4356
  pub inside : Inside nx ny v
  pub axis : a ≤ 2
  pub key_is : key ≡ L a v
  pub small : key < unreached
  pub past : List ℕ
  pub count : n ≡ length past + 1
  pub goes : (us : List ℕ) → Walk G F.end L a v us → Walk G F.end L 2 start (past ++ us)
  pub rest : (us : List ℕ) → Path G F.end v us → key_from G a us ≡ L a v → Path G F.end start (past ++ us) × (key_from G 2 (past ++ us) ≡ L 2 start)
  pub written : visits start (take (n - 1) trail) ≡ past ++ (v ∷ [])
  pub at : last_of start (take (n - 1) trail) ≡ v

pub going_none : {G : Net} {F : Lanes} {nx ny : ℕ} {L : ℕ → ℕ → ℕ} {start : ℕ} {trail : List ℕ} {key : ℕ} → length trail ≡ 4356 → Inside nx ny start → key ≡ L 2 start → key < unreached
    → Going G F nx ny L start trail start 2 key 1
unfolding visits last_of
going_none s i e h =
    record { sized = s; inside = i; axis = omega arith; key_is = e; small = h; past = []; count = refl; goes = λ us w. w; rest = λ us p q. (p, q); written = refl; at = refl }

module _ {G : Net} {F : Lanes} {nx ny : ℕ} (m : Mapped G F nx ny) (z : Sized G 4356) {top low : List ℕ} (s : Searched G F nx ny top low) (ei : Inside nx ny F.end) where
  abbrev L : ℕ → ℕ → ℕ
  L = label_at F nx (key_at top low)

  end_below : F.end < 4356
  end_below = inside_below m.east_few m.north_few ei

  relaxed : Relaxed G F.end L
  relaxed = relaxed_here m z s ei

  module _ {start : ℕ} {trail : List ℕ} {v a key n : ℕ} (o : Going G F nx ny L start trail v a key n) where
    here : Attained G F.end a v (L a v)
    here = label_attained m s a v o.axis o.inside (omega (arith, o.key_is, o.small))

    exact : key_from G a here.by ≡ L a v
    exact = reached G F.end 4356 z L relaxed a v o.axis here

    whole : length (o.past ++ here.by) ≤ 4356
    whole = let t = o.rest here.by here.path exact in short G F.end 4356 z L relaxed end_below 2 (omega arith) t.0 t.1

    -- there is room for one more
    pub going_room : (v ≡ F.end → ⊥) → n < 4356
    going_room ne = omega (arith, whole, length-append o.past here.by, path_two ne here.path, o.count)

    module _ {d : ℕ} (t : NextIs G F L a v d) where
      abbrev u : ℕ
      u = step_of F.steps d v

      led_axis : G.axis v u ≡ axis_by d
      led_axis = (m.leads d v t.small (inside_below m.east_few m.north_few o.inside) t.below).axis

      pub next_inside : Inside nx ny u
      next_inside = m.to t.tight.step

      module _ {b k x : ℕ} (be : b ≡ axis_by d) (xe : x ≡ u) (ke : k ≡ L b x) where
        next_key : L (G.axis v u) u ≡ k
        next_key = sym (ke ∙ ap (λ (y : ℕ). L b y) xe ∙ ap (λ (y : ℕ). L y u) (be ∙ sym led_axis))

        pub key_falls : k < key
        key_falls = omega (arith, t.tight.sum, weight_up G F.end 4356 z L relaxed a v u t.tight.step, next_key, o.key_is)

        pub going_next : (v ≡ F.end → ⊥) → Going G F nx ny L start (set trail (n - 1) d) x b k (n + 1)
        unfolding moved_by
        going_next ne =
            rw xe
            (record {
              sized = length-set trail (n - 1) d ∙ o.sized;
              inside = next_inside;
              axis = omega (arith, axis_small d);
              key_is = ke ∙ ap (L b) xe;
              small = omega (arith, key_falls, o.small);
              past = o.past ++ (v ∷ []);
              count = omega (arith, length-append o.past (v ∷ []), o.count);
              goes = λ us w. rw append_assoc (o.goes (v ∷ us) (move t.tight t.lowest (subst (λ (y : ℕ). Walk G F.end L y u us) (be ∙ sym led_axis) w)));
              rest = λ us p q.
                  rw append_assoc
                  (o.rest (v ∷ us) (onward t.tight.step p)
                  (key_more G F.end a v p ∙ omega (arith, t.tight.sum, ap (λ (y : ℕ). key_from G y us) (be ∙ sym led_axis), ap (λ (y : ℕ). L y u) (be ∙ sym led_axis))));
              written = rw longer (visits_snoc start (take (n - 1) trail) d ∙ ap (λ (l : List ℕ). l ++ (moved_by d (last_of start (take (n - 1) trail)) ∷ [])) o.written
                  ∙ ap (λ (y : ℕ). (o.past ++ (v ∷ [])) ++ (y ∷ [])) to);
              at = rw longer (last_snoc start (take (n - 1) trail) d ∙ to);
            })
          where
            longer : take (n + 1 - 1) (set trail (n - 1) d) ≡ take (n - 1) trail ++ (d ∷ [])
            longer =
                let q : n + 1 - 1 ≡ suc (n - 1) = omega (arith, o.count) in
                ap (λ (k : ℕ). take k (set trail (n - 1) d)) q ∙ take-suc-set trail (n - 1) d (omega (arith, o.sized, going_room ne))

            to : moved_by d (last_of start (take (n - 1) trail)) ≡ u
            to = ap (moved_by d) o.at ∙ sym (step_at F.steps d v t.small t.below)

    pub arrived : v ≡ F.end → Trailed G start F.end (L 2 start) trail n
    unfolding cost changes
    arrived e =
        let w : Walk G F.end L 2 start (o.past ++ (F.end ∷ [])) =
        o.goes (F.end ∷ []) (subst (λ (x : ℕ). Walk G F.end L a x (F.end ∷ [])) (sym e) (stop (path_stop here.path))) in
        let q : visits start (take (n - 1) trail) ≡ o.past ++ (F.end ∷ []) = o.written ∙ ap (λ (x : ℕ). o.past ++ (x ∷ [])) e in
        let p = walk_path G F.end 4356 z L relaxed w in
        let k = walk_key G F.end 4356 z L relaxed (omega arith) w in
        let l = short G F.end 4356 z L relaxed end_below 2 (omega arith) p k in
        let c : length (o.past ++ (F.end ∷ [])) ≡ n = omega (arith, length-append o.past (F.end ∷ []), o.count) in
        record {
          sized = o.sized;
          some = omega (arith, o.count);
          fits = omega arith;
          best = rw q (walk_best G F.end 4356 z L relaxed end_below (omega arith) start w);
          price = rw q (omega (arith, k, key_cost G (o.past ++ (F.end ∷ [])), changes_few G 2 (o.past ++ (F.end ∷ [])), l));
          within = λ i b. rw q (path_within z end_below p i (omega arith));
        }
