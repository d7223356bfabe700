-- The steps that the table of steps says are those of the net.
use mathlib.Core.Path.{◌≡◌, sym, ap, ◌∙◌, subst}
use mathlib.Core.Logic.{◌⊎◌, ⊎_elim}
use mathlib.Core.List.{List}
use Prim.Native.Nat.{ℕ, ◌+◌, ◌-◌, ◌/◌, ◌<◌}
use native.Mathlib.Omega.{arith}
use Rattle.geometry.specs.Words.{Point}
use Rattle.lengths.specs.Length.{gap}
use Rattle.crossings.specs.Grid.{Grid, place, Beside, west, south, north, east, Stepping, reach, axis_of}
use Rattle.crossings.specs.inner.Charts.{ruled, Ruled, spot, span, Charted, west_of, south_of, north_of, east_of}
use Rattle.crossings.proofs.Charts.{bit, place_of_crossing, step_back}
use Rattle.crossings.proofs.Reading.{west_open, west_found, south_open, south_found, north_open, north_found, east_open, east_found, axis_same, axis_other}

pub span_reach : (blocks xs : List ℕ) (nx : ℕ) (ys : List ℕ) (ny : ℕ) → Ruled xs nx ys ny → {v u : ℕ} → Stepping blocks (ruled xs nx ys ny) v u → span xs ys v u ≡ reach (ruled xs nx ys ny) v u
unfolding span reach
span_reach blocks xs nx ys ny r {v} {u} s =
    ap (λ (t : Point). gap t.east (spot xs ys u).east + gap t.north (spot xs ys u).north) (sym (place_of_crossing xs nx ys ny r v s.from))
    ∙ ap (λ (t : Point). gap (place (ruled xs nx ys ny) v).east t.east + gap (place (ruled xs nx ys ny) v).north t.north) (sym (place_of_crossing xs nx ys ny r u s.to))

module _ (blocks : List ℕ) (g : Grid) (steps : List ℕ) (ch : Charted blocks g steps 4356) (v : ℕ) (l : v < 4356) where
  abbrev S : ℕ → ℕ → Type 0
  S v u = Stepping blocks g v u

  -- where each of the four leads, and that a step of its kind is it
  pub west_step : west_of steps v < 4356 → S v (west_of steps v)
  west_step h =
      let f = west_found steps v h in
      let e : v - 66 + 66 ≡ v = omega (arith, f.0) in
      subst (S v) (west_open steps v f.0 f.1) (step_back blocks g (subst (S (v - 66)) e ((ch.east (v - 66) (omega arith)).yes'' f.1)))

  pub west_is : (u : ℕ) → u + 66 ≡ v → S v u → u ≡ west_of steps v
  west_is u e s =
      let q : u ≡ v - 66 = omega arith in
      let f : v ≡ v - 66 + 66 = omega arith in
      q ∙ west_open steps v (omega arith) (bit _ (ch.east (v - 66) (omega arith)) (subst (S (v - 66)) f (subst (λ (k : ℕ). S k v) q (step_back blocks g s))))

  pub south_step : south_of steps v < 4356 → S v (south_of steps v)
  south_step h =
      let f = south_found steps v h in
      let e : v - 1 + 1 ≡ v = omega (arith, f.0) in
      subst (S v) (south_open steps v f.0 f.1) (step_back blocks g (subst (S (v - 1)) e ((ch.north (v - 1) (omega arith)).yes'' f.1)))

  pub south_is : (u : ℕ) → u + 1 ≡ v → S v u → u ≡ south_of steps v
  south_is u e s =
      let q : u ≡ v - 1 = omega arith in
      let f : v ≡ v - 1 + 1 = omega arith in
      q ∙ south_open steps v (omega arith) (bit _ (ch.north (v - 1) (omega arith)) (subst (S (v - 1)) f (subst (λ (k : ℕ). S k v) q (step_back blocks g s))))

  pub north_step : north_of steps v < 4356 → S v (north_of steps v)
  north_step h = let b = north_found steps v h in subst (S v) (north_open steps v b) ((ch.north v l).yes'' b)

  pub north_is : (u : ℕ) → u ≡ v + 1 → S v u → u ≡ north_of steps v
  north_is u e s = e ∙ north_open steps v (bit _ (ch.north v l) (subst (S v) e s))

  pub east_step : east_of steps v < 4356 → S v (east_of steps v)
  east_step h = let b = east_found steps v h in subst (S v) (east_open steps v b) ((ch.east v l).yes'' b)

  pub east_is : (u : ℕ) → u ≡ v + 66 → S v u → u ≡ east_of steps v
  east_is u e s = e ∙ east_open steps v (bit _ (ch.east v l) (subst (S v) e s))

-- the crossing that each leads to lies where it says
module _ (steps : List ℕ) (v : ℕ) where
  pub west_at : west_of steps v < 4356 → west_of steps v + 66 ≡ v
  west_at h = let f = west_found steps v h in omega (arith, west_open steps v f.0 f.1)

  pub south_at : south_of steps v < 4356 → south_of steps v + 1 ≡ v
  south_at h = let f = south_found steps v h in omega (arith, south_open steps v f.0 f.1)

  pub north_at : north_of steps v < 4356 → north_of steps v ≡ v + 1
  north_at h = sym (north_open steps v (north_found steps v h))

  pub east_at : east_of steps v < 4356 → east_of steps v ≡ v + 66
  east_at h = sym (east_open steps v (east_found steps v h))

-- the axes
pub west_axis : (v u : ℕ) → u + 66 ≡ v → axis_of v u ≡ 1
west_axis v u e = sym (axis_other v u (λ (q : v / 66 ≡ u / 66). omega arith))

pub east_axis : (v u : ℕ) → u ≡ v + 66 → axis_of v u ≡ 1
east_axis v u e = sym (axis_other v u (λ (q : v / 66 ≡ u / 66). omega arith))

pub same_axis : (v u : ℕ) → v / 66 ≡ u / 66 → axis_of v u ≡ 0
same_axis v u e = sym (axis_same v u e)

-- one row off is no step but along the column
pub row_of : {v u : ℕ} → (u + 1 ≡ v) ⊎ (u ≡ v + 1) → Beside v u → v / 66 ≡ u / 66
row_of d (west e) = absurd (⊎_elim (λ (f : _). omega arith) (λ (f : _). omega arith) d)
row_of d (south e f) = f
row_of d (north e f) = f
row_of d (east e) = absurd (⊎_elim (λ (f : _). omega arith) (λ (f : _). omega arith) d)
