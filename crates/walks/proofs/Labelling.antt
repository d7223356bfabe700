-- After the search the labels are relaxed, and each that is reached is that of a path.
use mathlib.Core.Path.{◌≡◌, refl, sym, ap, ◌∙◌, subst}
use mathlib.Core.List.{List, [], ◌∷◌}
use Prim.Native.Nat.{ℕ, zero, suc, ◌+◌, ◌*◌, ◌-◌, ◌/◌, ◌%◌, ◌≤◌, ◌<◌, min}
use native.Mathlib.Omega.{arith}
use native.Mathlib.Decide.{dec_lt}
use Rattle.nets.specs.Net.{Net, turn}
use Rattle.nets.specs.inner.Keys.{weight, key_from, Attained, Relaxed}
use Rattle.nets.proofs.Sums.{turn_first}
use Rattle.crossings.specs.inner.Charts.{span, step_of, axis_by}
use Rattle.crossings.proofs.Directions.{Way, to_west, to_south, to_north, to_east, way}
use Rattle.sweeps.specs.inner.Keys.{key_at, unreached, Lanes, leave, through, on_line, gap_on, line_key, Calm, Searched}
use Rattle.sweeps.proofs.Carrying.{leave_end, leave_most, through_none, through_is, Toward, west, south, north, east, Led, Leads, axis_small, attained_least, carried_attained}
use Rattle.sweeps.proofs.Passing.{line_back, gap_is, line_below}
use Rattle.walks.specs.inner.Labels.{across, label_at}

-- the line of a crossing against direction d, its length and the place of the crossing on it
unfoldable line_by : ℕ → ℕ → ℕ
line_by zero v = v % 66
line_by (suc zero) v = v / 66
line_by (suc (suc zero)) v = v / 66
line_by (suc (suc (suc d))) v = v % 66

unfoldable long_by : ℕ → ℕ → ℕ → ℕ
long_by nx ny zero = nx
long_by nx ny (suc zero) = ny
long_by nx ny (suc (suc zero)) = ny
long_by nx ny (suc (suc (suc d))) = nx

unfoldable place_by : ℕ → ℕ → ℕ → ℕ → ℕ
place_by nx ny zero v = v / 66
place_by nx ny (suc zero) v = v % 66
place_by nx ny (suc (suc zero)) v = ny - 1 - v % 66
place_by nx ny (suc (suc (suc d))) v = nx - 1 - v / 66

pub record Inside (nx ny v : ℕ) : Type 0 where
  pub east : v / 66 < nx
  pub north : v % 66 < ny

-- what a net has whose steps the table of steps tells
pub record Mapped (G : Net) (F : Lanes) (nx ny : ℕ) : Type 0 where
  pub leads : Leads G F
  pub from : {v u : ℕ} → G.Step v u → Inside nx ny v
  pub to : {v u : ℕ} → G.Step v u → Inside nx ny u
  pub only : {v u : ℕ} → G.Step v u → (d : ℕ) × (d ≤ 3) × (step_of F.steps d v ≡ u)
  pub back : (d v u : ℕ) → d ≤ 3 → v < 4356 → u < 4356 → step_of F.steps d v ≡ u → step_of F.steps (3 - d) u ≡ v
  pub east_few : nx ≤ 66
  pub north_few : ny ≤ 66

pub inside_below : {nx ny v : ℕ} → nx ≤ 66 → ny ≤ 66 → Inside nx ny v → v < 4356
inside_below a b i = omega (arith, i.east, i.north)

on_place : (nx ny d v : ℕ) → d ≤ 3 → Inside nx ny v → on_line d (line_by d v) (long_by nx ny d) (place_by nx ny d v) ≡ v
unfolding on_line line_by long_by place_by
on_place nx ny zero v l i = omega arith
on_place nx ny (suc zero) v l i = omega arith
on_place nx ny (suc (suc zero)) v l i = omega (arith, i.north)
on_place nx ny (suc (suc (suc zero))) v l i = omega (arith, i.east)
on_place nx ny (suc (suc (suc (suc d)))) v l i = absurd (omega arith)

most : (nx ny d : ℕ) → nx ≤ 66 → ny ≤ 66 → long_by nx ny d ≤ 66
unfolding long_by
most nx ny zero a b = a
most nx ny (suc zero) a b = b
most nx ny (suc (suc zero)) a b = b
most nx ny (suc (suc (suc d))) a b = a

next_place : {nx ny d v u : ℕ} → Toward v u d → Inside nx ny v → Inside nx ny u → (line_by d u ≡ line_by d v) × (place_by nx ny d v ≡ suc (place_by nx ny d u))
unfolding line_by place_by
next_place (west e) i j = (omega arith, omega arith)
next_place (south e f) i j = (omega arith, omega arith)
next_place (north e f) i j = (omega arith, omega (arith, j.north))
next_place (east e) i j = (omega arith, omega (arith, j.east))

span_sym : (xs ys : List ℕ) (v u : ℕ) → span xs ys v u ≡ span xs ys u v
unfolding span
span_sym xs ys v u = omega arith

-- before the first step no change is counted
key_first : (G : Net) (d : ℕ) (us : List ℕ) → key_from G 2 us ≤ key_from G d us
unfolding key_from weight
key_first G d [] = omega arith
key_first G d (v ∷ []) = omega arith
key_first G d (v ∷ u ∷ us) = omega (arith, turn_first (G.axis v u))

module _ {G : Net} {F : Lanes} {nx ny : ℕ} (m : Mapped G F nx ny) {top low : List ℕ} (s : Searched G F nx ny top low) where
  abbrev K : ℕ → ℕ
  K = key_at top low

  -- the key of v after a step along d's line, by paths that go on in direction d
  unfoldable key_by : ℕ → ℕ → ℕ
  key_by d v = line_key F K d (line_by d v) (long_by nx ny d) (suc (place_by nx ny d v))

  places : (d v : ℕ) → d ≤ 3 → Inside nx ny v → (line_by d v < long_by ny nx d) × (place_by nx ny d v < long_by nx ny d)
  unfolding line_by long_by place_by
  places zero v l i = (i.north, i.east)
  places (suc zero) v l i = (i.east, i.north)
  places (suc (suc zero)) v l i = (i.east, omega (arith, i.north))
  places (suc (suc (suc zero))) v l i = (i.north, omega (arith, i.east))
  places (suc (suc (suc (suc d)))) v l i = absurd (omega arith)

  -- the least key by one step in direction d
  unfoldable on_by : ℕ → ℕ → ℕ
  on_by d v = through F.steps d v (span F.xs F.ys v (step_of F.steps d v)) (key_by d (step_of F.steps d v))

  -- the key of the line up to v is that of the crossing u that it leads to
  key_line : (d v u : ℕ) → (line_by d u ≡ line_by d v) × (place_by nx ny d v ≡ suc (place_by nx ny d u))
      → line_key F K d (line_by d v) (long_by nx ny d) (place_by nx ny d v) ≡ key_by d u
  unfolding key_by
  key_line d v u p =
      ap (λ (l : ℕ). line_key F K d l (long_by nx ny d) (place_by nx ny d v)) (sym p.0)
      ∙ ap (line_key F K d (line_by d u) (long_by nx ny d)) p.1

  key_is : (d v : ℕ) → d ≤ 3 → Inside nx ny v → key_by d v ≡ min (leave F.end K (axis_by d) v) (on_by d v)
  unfolding key_by line_key on_by
  key_is d v dl i = rw (on_place nx ny d v dl i) (ap (min (leave F.end K (axis_by d) v)) (go (dec_lt (step_of F.steps d v) 4356)))
    where
      below : v < 4356
      below = inside_below m.east_few m.north_few i

      go : Dec (step_of F.steps d v < 4356)
          → through F.steps d v (gap_on F.xs F.ys d (long_by nx ny d) (place_by nx ny d v)) (line_key F K d (line_by d v) (long_by nx ny d) (place_by nx ny d v)) ≡ on_by d v
      go (no n) =
          sym (through_none F.steps d v (gap_on F.xs F.ys d (long_by nx ny d) (place_by nx ny d v)) (line_key F K d (line_by d v) (long_by nx ny d) (place_by nx ny d v)) refl (omega arith))
          ∙ through_none F.steps d v (span F.xs F.ys v (step_of F.steps d v)) (key_by d (step_of F.steps d v)) refl (omega arith)
      go (yes l) =
          let t = m.leads d v dl below l in
          let p = next_place t.toward i (m.to t.step) in
          let q = places d v dl i in
          let o = on_place nx ny d v dl i in
          let w : gap_on F.xs F.ys d (long_by nx ny d) (place_by nx ny d v) ≡ span F.xs F.ys v (step_of F.steps d v) =
          gap_is F.xs F.ys (line_by d v) (long_by nx ny d) (place_by nx ny d v) (omega (arith, q.0, most ny nx d m.north_few m.east_few)) (most nx ny d m.east_few m.north_few)
          (omega (arith, p.1)) q.1 (subst (λ (x : ℕ). Toward x (step_of F.steps d v) d) (sym o) t.toward)
          ∙ ap (λ (x : ℕ). span F.xs F.ys x (step_of F.steps d v)) o in
          rw w (ap (through F.steps d v (span F.xs F.ys v (step_of F.steps d v))) (key_line d v (step_of F.steps d v) p))

  key_leave : (d v : ℕ) → d ≤ 3 → Inside nx ny v → key_by d v ≤ K v + 1638401 * axis_by d
  key_leave d v dl i = omega (arith, key_is d v dl i, leave_most F.end K (axis_by d) v)

  calm_of : (d line k : ℕ) → d ≤ 3 → line < long_by ny nx d → k < long_by nx ny d → Calm F K d line (long_by nx ny d) k
  unfolding long_by
  calm_of zero line k l = s.calm.west line k
  calm_of (suc zero) line k l = s.calm.south line k
  calm_of (suc (suc zero)) line k l = s.calm.north line k
  calm_of (suc (suc (suc zero))) line k l = s.calm.east line k
  calm_of (suc (suc (suc (suc d)))) line k l = absurd (omega arith)

  key_calm : (d v : ℕ) → d ≤ 3 → Inside nx ny v → K v ≤ key_by d v + 1638401 * axis_by d
  unfolding key_by
  key_calm d v dl i =
      let p = places d v dl i in
      omega (arith, (calm_of d (line_by d v) (place_by nx ny d v) dl p.0 p.1).calm, ap K (on_place nx ny d v dl i))

  on_is : (e x y : ℕ) → step_of F.steps e x ≡ y → y < 4356 → on_by e x ≡ 65536 * span F.xs F.ys x y + key_by e y
  unfolding on_by
  on_is e x y z l = rw z (sym (through_is F.steps e x (span F.xs F.ys x y) (key_by e y) (sym z) l))

  -- a step in direction d
  module _ (d v u : ℕ) (dl : d ≤ 3) (st : G.Step v u) (q : step_of F.steps d v ≡ u) where
    abbrev w : ℕ
    w = 65536 * span F.xs F.ys v u

    below : {x : ℕ} → Inside nx ny x → x < 4356
    below = inside_below m.east_few m.north_few

    key_on : key_by d v ≤ w + key_by d u
    key_on = omega (arith, key_is d v dl (m.from st), on_is d v u q (below (m.to st)))

    key_back : key_by (3 - d) u ≡ min (leave F.end K (axis_by (3 - d)) u) (w + key_by (3 - d) v)
    key_back =
        let b = m.back d v u dl (below (m.from st)) (below (m.to st)) q in
        let e : on_by (3 - d) u ≡ w + key_by (3 - d) v = omega (arith, on_is (3 - d) u v b (below (m.from st)), span_sym F.xs F.ys v u) in
        key_is (3 - d) u (omega arith) (m.to st) ∙ ap (min (leave F.end K (axis_by (3 - d)) u)) e

  -- the labels: north-south the keys themselves, east-west the lesser of both directions
  module _ (v : ℕ) (i : Inside nx ny v) where
    across_is : across F nx K v ≡ min (key_by 0 v) (key_by 3 v)
    unfolding across key_by line_by long_by place_by
    across_is = refl

    -- a change of direction costs one turn
    turn_in : K v ≤ across F nx K v + 1638401
    unfolding axis_by
    turn_in = omega (arith, across_is, key_calm 0 v (omega arith) i, key_calm 3 v (omega arith) i)

    turn_out : across F nx K v ≤ K v + 1638401
    unfolding axis_by
    turn_out = omega (arith, across_is, key_leave 0 v (omega arith) i)

  abbrev L : ℕ → ℕ → ℕ
  L = label_at F nx K

  turn_to : (a b v : ℕ) → a ≤ 2 → b ≤ 1 → Inside nx ny v → L a v ≤ L b v + 1638401 * turn a b
  unfolding label_at turn
  turn_to zero zero v al bl i = omega arith
  turn_to zero (suc zero) v al bl i = turn_in v i
  turn_to (suc zero) zero v al bl i = turn_out v i
  turn_to (suc zero) (suc zero) v al bl i = omega arith
  turn_to (suc (suc zero)) zero v al bl i = omega arith
  turn_to (suc (suc zero)) (suc zero) v al bl i = omega arith
  turn_to (suc (suc (suc a))) b v al bl i = absurd (omega arith)
  turn_to zero (suc (suc b)) v al bl i = absurd (omega arith)
  turn_to (suc zero) (suc (suc b)) v al bl i = absurd (omega arith)
  turn_to (suc (suc zero)) (suc (suc b)) v al bl i = absurd (omega arith)

  -- a step along the line
  straight_on : {d v u : ℕ} → Way d → d ≤ 3 → G.Step v u → step_of F.steps d v ≡ u → L (axis_by d) v ≤ 65536 * span F.xs F.ys v u + L (axis_by d) u
  unfolding label_at axis_by
  straight_on {v = v} {u = u} to_west l st q =
      omega (arith, across_is v (m.from st), across_is u (m.to st), key_on 0 v u l st q, key_back 0 v u l st q, key_is 0 u l (m.to st))
  straight_on {v = v} {u = u} to_south l st q = omega (arith, key_calm 1 v l (m.from st), key_on 1 v u l st q, key_leave 1 u l (m.to st))
  straight_on {v = v} {u = u} to_north l st q = omega (arith, key_calm 2 v l (m.from st), key_on 2 v u l st q, key_leave 2 u l (m.to st))
  straight_on {v = v} {u = u} to_east l st q =
      omega (arith, across_is v (m.from st), across_is u (m.to st), key_on 3 v u l st q, key_back 3 v u l st q, key_is 3 u l (m.to st))

  pub weight_is : (a d v u : ℕ) → Led G F d v u → weight G a v u ≡ 65536 * span F.xs F.ys v u + 1638401 * turn a (axis_by d)
  unfolding weight
  weight_is a d v u t = omega (arith, t.long, ap (turn a) t.axis)

  by_step : (a v u : ℕ) → a ≤ 2 → G.Step v u → L a v ≤ weight G a v u + L (G.axis v u) u
  by_step a v u al st =
      let o = m.only st in
      let t : Led G F o.0 v u = subst (Led G F o.0 v) o.2 (m.leads o.0 v o.1 (inside_below m.east_few m.north_few (m.from st)) (omega (arith, o.2, inside_below m.east_few m.north_few (m.to st)))) in
      omega (
        arith,
        turn_to a (axis_by o.0) v al (axis_small o.0) (m.from st),
        straight_on (way o.0 o.1) o.1 st o.2,
        weight_is a o.0 v u t,
        ap (λ (b : ℕ). L b u) t.axis,
      )

  module _ (e : Inside nx ny F.end) where
    at_end : (a : ℕ) → a ≤ 2 → L a F.end ≡ 0
    unfolding label_at
    at_end zero l = s.fair.at_end
    at_end (suc zero) l = omega (arith, across_is F.end e, key_is 0 F.end (omega arith) e, leave_end F.end K (axis_by 0) F.end refl)
    at_end (suc (suc zero)) l = omega (arith, s.fair.at_end)
    at_end (suc (suc (suc a))) l = absurd (omega arith)

    pub relaxed : Relaxed G F.end L
    relaxed = record { at_end = at_end; by_step = by_step }

  line_attained : (d line n : ℕ) → d ≤ 3 → line < 66 → n ≤ 66 → (k : ℕ) → k < n → line_key F K d line n (suc k) < unreached
      → Attained G F.end (axis_by d) (on_line d line n k) (line_key F K d line n (suc k))
  unfolding line_key
  line_attained d line n dl ll nl zero kl h =
      carried_attained m.leads s.fair d (on_line d line n 0) (gap_on F.xs F.ys d n 0) unreached (line_key F K d line n 1) dl (line_below d line n 0 dl ll nl kl) (λ l g. absurd (omega arith)) refl h
  line_attained d line n dl ll nl (suc k) kl h =
      let v = on_line d line n (suc k) in
      let b = line_below d line n (suc k) dl ll nl kl in
      let z : suc k - 1 ≡ k = omega arith in
      carried_attained m.leads s.fair d v (gap_on F.xs F.ys d n (suc k)) (line_key F K d line n (suc k)) (line_key F K d line n (suc (suc k))) dl b
      (λ l g. (
        gap_is F.xs F.ys line n (suc k) ll nl (omega arith) kl (m.leads d v dl b l).toward,
        subst (λ (w : ℕ). Attained G F.end (axis_by d) w (line_key F K d line n (suc k))) (sym (line_back line n (suc k) (omega arith) kl (m.leads d v dl b l).toward ∙ ap (on_line d line n) z))
            (line_attained d line n dl ll nl k (omega arith) g),
      )) refl h

  key_attained : (d v : ℕ) → d ≤ 3 → Inside nx ny v → key_by d v < unreached → Attained G F.end (axis_by d) v (key_by d v)
  unfolding key_by
  key_attained d v dl i h =
      let p = places d v dl i in
      subst (λ (w : ℕ). Attained G F.end (axis_by d) w (line_key F K d (line_by d v) (long_by nx ny d) (suc (place_by nx ny d v)))) (on_place nx ny d v dl i)
      (line_attained d (line_by d v) (long_by nx ny d) dl (omega (arith, p.0, most ny nx d m.north_few m.east_few)) (most nx ny d m.east_few m.north_few) (place_by nx ny d v) p.1 h)

  keys_attained : (v : ℕ) → Inside nx ny v → K v < unreached → Attained G F.end 0 v (K v)
  keys_attained v i = s.fair.attained v (inside_below m.east_few m.north_few i)

  across_attained : (v : ℕ) → Inside nx ny v → across F nx K v < unreached → Attained G F.end 1 v (across F nx K v)
  unfolding axis_by
  across_attained v i = attained_least (across_is v i) (key_attained 0 v (omega arith) i) (key_attained 3 v (omega arith) i)

  -- a label that is reached is that of a path
  pub label_attained : (a v : ℕ) → a ≤ 2 → Inside nx ny v → L a v < unreached → Attained G F.end a v (L a v)
  unfolding label_at
  label_attained zero v l i = keys_attained v i
  label_attained (suc zero) v l i = across_attained v i
  label_attained (suc (suc zero)) v l i = attained_least refl (λ g. start (keys_attained v i g)) (λ g. start (across_attained v i g))
    where
      start : {b k : ℕ} → Attained G F.end b v k → Attained G F.end 2 v k
      start {b} t = record { by = t.by; path = t.path; within = omega (arith, key_first G b t.by, t.within) }
  label_attained (suc (suc (suc a))) v l i = absurd (omega arith)
