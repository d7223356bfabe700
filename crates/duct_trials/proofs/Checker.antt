-- The best path in a grid that is written out, as a test that is computed: labels that no step undercuts, and the walk by them.
use mathlib.Core.Path.{◌≡◌, refl, sym, ap, ◌∙◌, subst}
use mathlib.Core.Logic.{⊎_elim}
use mathlib.Core.List.{List, [], ◌∷◌}
use mathlib.Core.Bool.{Bool, true, false, ◌&&◌, ◌||◌, not, cond, true≢false}
use Prim.Native.Nat.{ℕ, ◌+◌, ◌*◌, ◌/◌, ◌%◌, ◌<◌, ◌≤◌, min}
use native.Mathlib.Omega.{arith}
use lib.Dec.{ltb, leb, eqb}
use lib.ListN.{length}
use borrow.Author.Tests.{ltb-true, leb-true, eqb-true, eq-eqb, not-true}
use Rattle.lists.specs.Lists.{all_below}
use Rattle.lists.proofs.Below.{all_at}
use Rattle.lists.proofs.Every.{both, and_yes, or_cases}
use Rattle.geometry.specs.Words.{Point, word}
use Rattle.visibility.specs.Visibility.{Clear}
use Rattle.nets.specs.Net.{Net, unmoved, IsBest}
use Rattle.nets.specs.inner.Keys.{weight, Relaxed, Tight}
use Rattle.nets.proofs.Cuts.{Sized}
use Rattle.nets.proofs.Labels.{Walk, stop, move, walk_best}
use Rattle.crossings.specs.Grid.{Grid, Crossing, place, Beside, west, south, north, east, Stepping, reach, axis_of, net}
use Rattle.crossings.proofs.Reading.{axis_flat}

-- a test of what the blocks hide
pub record Judges (blocks : List ℕ) (hid : Point → Point → Bool) : Type 0 where
  pub hides : (a b : Point) → hid a b ≡ true → Clear blocks a b → ⊥
  pub clears : (a b : Point) → hid a b ≡ false → Clear blocks a b

-- p holds at each crossing
unfoldable pub everywhere : Grid → (ℕ → Bool) → Bool
everywhere g p = all_below (length g.xs) (λ i. all_below (length g.ys) (λ j. p (66 * i + j)))

unfoldable pub within : Grid → ℕ → Bool
within g v = ltb (v / 66) (length g.xs) && ltb (v % 66) (length g.ys)

-- labels: three numbers for each crossing, the length left to the end, and the changes left after a step north-south, and after one east-west
unfoldable pub label_of : Grid → List ℕ → ℕ → ℕ → ℕ
label_of g table a v =
    key (word table (at v)) (cond (eqb a unmoved) (min (word table (at v + 1)) (word table (at v + 2))) (word table (at v + 1 + a)))
  where
    at : ℕ → ℕ
    at w = 3 * (length g.ys * (w / 66) + w % 66)

    key : ℕ → ℕ → ℕ
    key l t = 65536 * (l + 25 * t) + t

-- two crossings side by side, by the four directions
unfoldable pub adjoin : ℕ → ℕ → Bool
adjoin v u = eqb (u + 66) v || (eqb u (v + 66) || (eqb (v / 66) (u / 66) && (eqb (u + 1) v || eqb u (v + 1))))

-- what these tests say
all_crossings : (g : Grid) (p : ℕ → Bool) (v : ℕ) → everywhere g p ≡ true → Crossing g v → p v ≡ true
unfolding everywhere
all_crossings g p v h c =
    let e : 66 * (v / 66) + v % 66 ≡ v = omega arith in
    ap p (sym e) ∙ all_at _ (length g.ys) (v % 66) (all_at (λ i. all_below (length g.ys) (λ j. p (66 * i + j))) (length g.xs) (v / 66) h c.east) c.north

in_grid : (g : Grid) (v : ℕ) → within g v ≡ true → Crossing g v
unfolding within
in_grid g v h =
    let p = both (ltb (v / 66) (length g.xs)) _ h in
    record { east = ltb-true _ _ p.0; north = ltb-true _ _ p.1 }

or_right : (a b : Bool) → b ≡ true → a || b ≡ true
or_right true b h = refl
or_right false b h = h

-- a test that is false if not true
decided : (t : Bool) → (t ≡ true → ⊥) → t ≡ false
decided true f = absurd (f refl)
decided false f = refl

-- of a test `not a || b`
implied : (a b : Bool) → not a || b ≡ true → a ≡ true → b ≡ true
implied true b h e = h
implied false b h e = absurd (true≢false (sym e))

adjoin_of : (v u : ℕ) → Beside v u → adjoin v u ≡ true
unfolding adjoin
adjoin_of v u (west e) = rw (eq-eqb (u + 66) v e)
adjoin_of v u (east e) = or_right (eqb (u + 66) v) _ (rw (eq-eqb u (v + 66) e))
adjoin_of v u (south e f) = or_right (eqb (u + 66) v) _ (or_right (eqb u (v + 66)) _ (rw (eq-eqb (v / 66) (u / 66) f, eq-eqb (u + 1) v e)))
adjoin_of v u (north e f) =
    or_right (eqb (u + 66) v) _ (or_right (eqb u (v + 66)) _ (rw (eq-eqb (v / 66) (u / 66) f) (or_right (eqb (u + 1) v) _ (eq-eqb u (v + 1) e))))

of_adjoin : (v u : ℕ) → adjoin v u ≡ true → Beside v u
unfolding adjoin
of_adjoin v u h = ⊎_elim (λ p. west (eqb-true _ _ p)) (λ p. ⊎_elim (λ q. east (eqb-true _ _ q)) along (or_cases (eqb u (v + 66)) _ p)) (or_cases (eqb (u + 66) v) _ h)
  where
    along : eqb (v / 66) (u / 66) && (eqb (u + 1) v || eqb u (v + 1)) ≡ true → Beside v u
    along h =
        let p = both (eqb (v / 66) (u / 66)) _ h in
        ⊎_elim (λ q. south (eqb-true _ _ q) (eqb-true _ _ p.0)) (λ q. north (eqb-true _ _ q) (eqb-true _ _ p.0)) (or_cases (eqb (u + 1) v) _ p.1)

module _ (blocks : List ℕ) (hid : Point → Point → Bool) (g : Grid) (L : ℕ → ℕ → ℕ) (end : ℕ) where
  abbrev G : Net
  G = net blocks g

  -- a step between two crossings of the grid
  unfoldable pub steps : ℕ → ℕ → Bool
  unfolding adjoin place
  steps v u = adjoin v u && not (hid (place g v) (place g u))

  -- no step is shorter than 1 or leads to a label that is too small
  unfoldable pub settled : ℕ → ℕ → Bool
  unfolding steps reach weight axis_of net
  settled v u = not (steps v u) || (leb 1 (reach g v u) && all_below 3 (λ a. leb (L a v) (weight G a v u + L (axis_of v u) u)))

  -- a step by which the labels add up
  unfoldable pub tight : ℕ → ℕ → ℕ → Bool
  unfolding steps weight axis_of net
  tight a v u = eqb (L a v) (weight G a v u + L (axis_of v u) u) && steps v u

  -- each next crossing is the lowest tight one
  unfoldable pub walks : ℕ → List ℕ → Bool
  unfolding tight everywhere within axis_of
  walks a [] = false
  walks a (v ∷ []) = eqb v end
  walks a (v ∷ u ∷ us) = within g v && within g u && tight a v u && everywhere g (λ w. not (tight a v w) || leb u w) && walks (axis_of v u) (u ∷ us)

  -- the labels of the end are 0, and a path may stop there; so few crossings that a key judges its changes
  unfoldable pub ends : Bool
  unfolding within place
  ends = ltb (length g.xs) 990 && (within g end && (not (hid (place g end) (place g end)) && all_below 3 (λ a. eqb (L a end) 0)))

  unfoldable pub checks : List ℕ → Bool
  unfolding everywhere settled ends walks
  checks us = ends && (everywhere g (λ v. everywhere g (settled v)) && walks unmoved us)

  module _ (judges : Judges blocks hid) where
    steps_of : (v u : ℕ) → Stepping blocks g v u → steps v u ≡ true
    unfolding steps
    steps_of v u s = rw (adjoin_of v u s.beside, decided (hid (place g v) (place g u)) (λ e. judges.hides _ _ e s.clear))

    of_steps : (v u : ℕ) → Crossing g v → Crossing g u → steps v u ≡ true → Stepping blocks g v u
    unfolding steps
    of_steps v u c d h =
        let p = both (adjoin v u) _ h in
        record { from = c; to = d; beside = of_adjoin v u p.0; clear = judges.clears _ _ (not-true _ p.1) }

    tight_of : (a v u : ℕ) → Tight G L a v u → tight a v u ≡ true
    unfolding tight net
    tight_of a v u t = and_yes (eqb (L a v) (weight G a v u + L (axis_of v u) u)) _ (eq-eqb _ _ t.sum) (steps_of v u t.step)

    of_tight : (a v u : ℕ) → Crossing g v → Crossing g u → tight a v u ≡ true → Tight G L a v u
    unfolding tight net
    of_tight a v u c d h =
        let p = both (eqb (L a v) (weight G a v u + L (axis_of v u) u)) _ h in
        record { step = of_steps v u c d p.1; sum = eqb-true _ _ p.0 }

    -- what the test says of the labels
    record Settled : Type 0 where
      few : length g.xs < 990
      end_in : Crossing g end
      may_stop : Clear blocks (place g end) (place g end)
      at_end : (a : ℕ) → a ≤ 2 → L a end ≡ 0
      each : (v u : ℕ) → Stepping blocks g v u → (1 ≤ reach g v u) × ((a : ℕ) → a ≤ 2 → L a v ≤ weight G a v u + L (axis_of v u) u)

    settled_by : (us : List ℕ) → checks us ≡ true → Settled
    unfolding checks ends settled
    settled_by us h =
        let p = both ends _ h in
        let q = both (ltb (length g.xs) 990) _ p.0 in
        let r = both (within g end) _ q.1 in
        let s = both (not (hid (place g end) (place g end))) _ r.1 in
        let t = both (everywhere g (λ v. everywhere g (settled v))) _ p.1 in
        record {
          few = ltb-true _ _ q.0;
          end_in = in_grid g end r.0;
          may_stop = judges.clears _ _ (not-true _ s.0);
          at_end = λ a l. eqb-true _ _ (all_at (λ b. eqb (L b end) 0) 3 a s.1 (omega arith));
          each = λ v u m.
              let e = all_crossings g (settled v) u (all_crossings g (λ w. everywhere g (settled w)) v t.0 m.from) m.to in
              let f = both (leb 1 (reach g v u)) _ (implied (steps v u) _ e (steps_of v u m)) in
              (leb-true _ _ f.0, λ a l. leb-true _ _ (all_at (λ b. leb (L b v) (weight G b v u + L (axis_of v u) u)) 3 a f.1 (omega arith)));
        }

    module _ (h : Settled) where
      below : (v : ℕ) → Crossing g v → v < 66 * length g.xs
      below v c = omega (arith, c.east)

      sized : Sized G (66 * length g.xs)
      unfolding net
      sized = record { from_below = λ v u s. below v s.from; to_below = λ v u s. below u s.to; far = λ v u s. (h.each v u s).0; flat = axis_flat }

      relaxed : Relaxed G end L
      unfolding net
      relaxed = record { at_end = h.at_end; by_step = λ a v u l s. (h.each v u s).1 a l }

      walk : (a v : ℕ) (us : List ℕ) → walks a (v ∷ us) ≡ true → Walk G end L a v (v ∷ us)
      unfolding walks net
      walk a v [] e = let q : end ≡ v = sym (eqb-true v end e) in subst (λ (w : ℕ). Walk G end L a w (w ∷ [])) q (stop h.may_stop)
      walk a v (u ∷ us) e =
          let p = both (within g v && within g u && tight a v u && everywhere g (λ w. not (tight a v w) || leb u w)) _ e in
          let q = both (within g v && within g u && tight a v u) _ p.0 in
          let r = both (within g v && within g u) _ q.0 in
          let s = both (within g v) _ r.0 in
          move (of_tight a v u (in_grid g v s.0) (in_grid g u s.1) r.1)
          (λ w t. leb-true u w (implied (tight a v w) _
          (all_crossings g (λ w. not (tight a v w) || leb u w) w q.1 t.step.to) (tight_of a v w t)))
          (walk (axis_of v u) u us p.1)

    pub best_by : (start : ℕ) (us : List ℕ) → checks (start ∷ us) ≡ true → IsBest G start end (start ∷ us)
    unfolding checks
    best_by start us h =
        let k = settled_by (start ∷ us) h in
        let p = both ends _ h in
        let t = both (everywhere g (λ v. everywhere g (settled v))) _ p.1 in
        walk_best G end (66 * length g.xs) (sized k) L (relaxed k) (below k end k.end_in) (omega (arith, k.few)) start (walk k unmoved start us t.1)
