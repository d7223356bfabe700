-- The steps of a crossing by direction: 0 west, 1 south, 2 north, 3 east.
use mathlib.Core.Path.{◌≡◌, refl, sym, subst}
use mathlib.Core.Logic.{inl, inr}
use mathlib.Core.Bool.{cond}
use mathlib.Core.List.{List}
use Prim.Native.Nat.{ℕ, zero, suc, ◌+◌, ◌-◌, ◌≤◌, ◌<◌}
use native.Mathlib.Omega.{arith}
use lib.Dec.{eqb}
use Rattle.std.specs.Prelude.{min}
use Rattle.std.proofs.lemmas.Bool.{ne_eqb}
use Rattle.crossings.specs.Grid.{Grid, Beside, west, south, north, east, Stepping, axis_of}
use Rattle.crossings.specs.inner.Charts.{ruled, Ruled, Charted, west_of, south_of, north_of, east_of, step_of, axis_by}
use Rattle.crossings.specs.declared.Direction.{Direction}
use Rattle.crossings.specs.declared.Direction.TheVariants.{West, South, North, East}
use Rattle.crossings.specs.inner.Directions.{code}
use Rattle.crossings.proofs.Charts.{in_grid, step_back}
use Rattle.crossings.proofs.Stepping.{west_step, west_is, west_at, west_axis, south_step, south_is, south_at, north_step, north_is, north_at, east_step, east_is, east_at, east_axis, same_axis, row_of}

pub data Way : ℕ → Type 0 where
  to_west : Way 0
  to_south : Way 1
  to_north : Way 2
  to_east : Way 3

pub way : (d : ℕ) → d ≤ 3 → Way d
way zero l = to_west
way (suc zero) l = to_south
way (suc (suc zero)) l = to_north
way (suc (suc (suc zero))) l = to_east
way (suc (suc (suc (suc d)))) l = absurd (omega arith)

pub code_small : (d : Direction) → code d ≤ 3
code_small West = omega arith
code_small South = omega arith
code_small North = omega arith
code_small East = omega arith

-- a number leads where the direction that it stands for does
pub numbered_step : (steps : List ℕ) (d v : ℕ) → step_of steps (min d 3) v ≡ step_of steps d v
unfolding step_of
numbered_step steps zero v = refl
numbered_step steps (suc zero) v = refl
numbered_step steps (suc (suc zero)) v = refl
numbered_step steps (suc (suc (suc d))) v =
    let e : min (suc (suc (suc d))) 3 ≡ 3 = omega arith in
    rw (e, ne_eqb (suc (suc (suc d))) 0 (λ h. omega arith), ne_eqb (suc (suc (suc d))) 1 (λ h. omega arith), ne_eqb (suc (suc (suc d))) 2 (λ h. omega arith)) refl

pub numbered_axis : (d : ℕ) → axis_by (min d 3) ≡ axis_by d
unfolding axis_by
numbered_axis zero = refl
numbered_axis (suc zero) = refl
numbered_axis (suc (suc zero)) = refl
numbered_axis (suc (suc (suc d))) =
    let e : min (suc (suc (suc d))) 3 ≡ 3 = omega arith in
    rw (e, ne_eqb (suc (suc (suc d))) 1 (λ h. omega arith), ne_eqb (suc (suc (suc d))) 2 (λ h. omega arith)) refl

-- where a direction leads somewhere, it is there
pub step_at : (steps : List ℕ) (d v : ℕ) → d ≤ 3 → step_of steps d v < 4356
    → step_of steps d v ≡ cond (eqb d 0) (v - 66) (cond (eqb d 1) (v - 1) (cond (eqb d 2) (v + 1) (v + 66)))
unfolding step_of
step_at steps d v l h = go (way d l) h
  where
    go : {d : ℕ} → Way d → step_of steps d v < 4356 → step_of steps d v ≡ cond (eqb d 0) (v - 66) (cond (eqb d 1) (v - 1) (cond (eqb d 2) (v + 1) (v + 66)))
    go to_west h = omega (arith, west_at steps v h)
    go to_south h = omega (arith, south_at steps v h)
    go to_north h = north_at steps v h
    go to_east h = east_at steps v h

module _ (blocks xs : List ℕ) (nx : ℕ) (ys : List ℕ) (ny : ℕ) (r : Ruled xs nx ys ny) (steps : List ℕ)
    (ch : Charted blocks (ruled xs nx ys ny) steps 4356) where
  abbrev g : Grid
  g = ruled xs nx ys ny

  pub step_is : (d v : ℕ) → d ≤ 3 → v < 4356 → step_of steps d v < 4356 → Stepping blocks g v (step_of steps d v)
  unfolding step_of
  step_is d v l k h = go (way d l) h
    where
      go : {d : ℕ} → Way d → step_of steps d v < 4356 → Stepping blocks g v (step_of steps d v)
      go to_west h = west_step blocks g steps ch v k h
      go to_south h = south_step blocks g steps ch v k h
      go to_north h = north_step blocks g steps ch v k h
      go to_east h = east_step blocks g steps ch v k h

  pub step_axis : (d v : ℕ) → d ≤ 3 → v < 4356 → step_of steps d v < 4356 → axis_of v (step_of steps d v) ≡ axis_by d
  unfolding step_of axis_by
  step_axis d v l k h = go (way d l) h
    where
      go : {d : ℕ} → Way d → step_of steps d v < 4356 → axis_of v (step_of steps d v) ≡ axis_by d
      go to_west h = west_axis v (west_of steps v) (west_at steps v h)
      go to_south h = same_axis v (south_of steps v) (row_of (inl (south_at steps v h)) (south_step blocks g steps ch v k h).beside)
      go to_north h = same_axis v (north_of steps v) (row_of (inr (north_at steps v h)) (north_step blocks g steps ch v k h).beside)
      go to_east h = east_axis v (east_of steps v) (east_at steps v h)

  -- the direction of a step
  pub record Headed (v u : ℕ) : Type 0 where
    pub direction : ℕ
    pub small : direction ≤ 3
    pub leads : step_of steps direction v ≡ u

  pub step_only : (v u : ℕ) → Stepping blocks g v u → Headed v u
  unfolding step_of
  step_only v u s = go s.beside
    where
      k : v < 4356
      k = in_grid xs nx ys ny r v s.from

      go : Beside v u → Headed v u
      go (west e) = record { direction = 0; small = omega arith; leads = sym (west_is blocks g steps ch v k u e s) }
      go (south e f) = record { direction = 1; small = omega arith; leads = sym (south_is blocks g steps ch v k u e s) }
      go (north e f) = record { direction = 2; small = omega arith; leads = sym (north_is blocks g steps ch v k u e s) }
      go (east e) = record { direction = 3; small = omega arith; leads = sym (east_is blocks g steps ch v k u e s) }

  -- the opposite direction leads back
  pub step_opposite : (d v u : ℕ) → d ≤ 3 → v < 4356 → step_of steps d v ≡ u → u < 4356 → step_of steps (3 - d) u ≡ v
  unfolding step_of
  step_opposite d v u l k e h = go (way d l) e (step_back blocks g (subst (Stepping blocks g v) e (step_is d v l k (omega arith))))
    where
      go : {d : ℕ} → Way d → step_of steps d v ≡ u → Stepping blocks g u v → step_of steps (3 - d) u ≡ v
      go to_west e s = sym (east_is blocks g steps ch u h v (omega (arith, west_at steps v (omega arith))) s)
      go to_south e s = sym (north_is blocks g steps ch u h v (omega (arith, south_at steps v (omega arith))) s)
      go to_north e s = sym (south_is blocks g steps ch u h v (omega (arith, north_at steps v (omega arith))) s)
      go to_east e s = sym (west_is blocks g steps ch u h v (omega (arith, east_at steps v (omega arith))) s)
