-- What the small functions of the walk read off the labels.
use mathlib.Core.Path.{◌≡◌, refl, ap, ◌∙◌}
use mathlib.Core.List.{List}
use Prim.Native.Nat.{ℕ, suc, ◌+◌, ◌-◌, ◌/◌, ◌%◌, ◌≤◌, ◌<◌, min}
use native.Mathlib.Omega.{arith}
use native.Mathlib.Numerals.{add-one}
use Rattle.crossings.specs.inner.Charts.{ruled, Ruled, Charted, step_of}
use Rattle.crossings.proofs.Charts.{crossing_east}
use Rattle.crossings.proofs.Directions.{step_is}
use Rattle.sweeps.specs.inner.Keys.{Lanes, line_key}
use Rattle.walks.specs.inner.Labels.{across}

module _ (F : Lanes) (nx : ℕ) (K : ℕ → ℕ) (v : ℕ) where
  pub across_read : (x y r : ℕ) → v / 66 < nx → x ≡ line_key F K 0 (v % 66) nx (v / 66 + 1) → y ≡ line_key F K 3 (v % 66) nx (nx - v / 66) → r ≡ min x y → r ≡ across F nx K v
  unfolding across
  across_read x y r l p q e =
      let n : nx - v / 66 ≡ suc (nx - 1 - v / 66) = omega arith in
      e ∙ rw (p, q, add-one, n) refl

-- a crossing that a step leads to lies on one of the lines
pub step_on : {blocks xs : List ℕ} {nx : ℕ} {ys : List ℕ} {ny : ℕ} {steps : List ℕ} {d v u : ℕ} → Ruled xs nx ys ny → Charted blocks (ruled xs nx ys ny) steps 4356 → d ≤ 3 → v < 4356
    → u ≡ step_of steps d v → u < 4356 → u / 66 < nx
step_on {blocks} {xs} {nx} {ys} {ny} {steps} {d} {v} {u} r ch dl vl e l =
    omega (arith, crossing_east xs nx ys ny r (step_of steps d v) (step_is blocks xs nx ys ny r steps ch d v dl vl (omega arith)).to, ap (λ (x : ℕ). x / 66) e)
