-- The lowest next crossing by the labels, found by trying the directions in order.
use mathlib.Core.Path.{◌≡◌, refl, sym, ap, ◌∙◌, subst}
use mathlib.Core.List.{List, [], ◌∷◌}
use lib.ListN.{get_or}
use Rattle.std.specs.Prelude.{Option, None, Some}
use Rattle.crossings.specs.declared.Axis.{Axis}
use Rattle.crossings.specs.declared.Axis.TheVariants.{NorthSouth, EastWest}
use Rattle.crossings.specs.declared.Direction.{Direction}
use Rattle.crossings.specs.inner.Directions.{code}
use Prim.Native.Nat.{ℕ, zero, suc, ◌+◌, ◌*◌, ◌≤◌, ◌<◌}
use native.Mathlib.Omega.{arith}
use native.Mathlib.Decide.{dec_lt}
use Rattle.nets.specs.Net.{Net, Path, arrive, onward, turn}
use Rattle.nets.specs.inner.Keys.{key_from, weight, Attained, Relaxed, Tight}
use Rattle.nets.proofs.Cuts.{Sized}
use Rattle.nets.proofs.Labels.{reached, first}
use Rattle.crossings.specs.inner.Charts.{span, step_of, axis_by}
use Rattle.sweeps.specs.inner.Keys.{key_at, unreached, Lanes, Searched}
use Rattle.sweeps.proofs.Carrying.{Toward, west, south, north, east, Led}
use Rattle.walks.specs.inner.Labels.{before_code, label_at, Leading, NextIs}
use Rattle.walks.proofs.Labelling.{Inside, Mapped, inside_below, weight_is, relaxed, label_attained}

-- directions are in the order of the crossings that they lead to
rank : {v u d : ℕ} → Toward v u d → (v + 33 * d ≤ u + 66) × (u + 66 ≤ v + 33 * d + 33)
rank (west e) = (omega arith, omega arith)
rank (south e f) = (omega arith, omega arith)
rank (north e f) = (omega arith, omega arith)
rank (east e) = (omega arith, omega arith)

-- the order in which they are tried
pub in_order : (a b c x : Direction) (i : ℕ) → i < 3 → code a ≡ 0 → code b ≡ 1 → code c ≡ 2 → code (get_or (a ∷ b ∷ c ∷ []) i x) ≡ i
in_order a b c x zero l p q r = p
in_order a b c x (suc zero) l p q r = q
in_order a b c x (suc (suc zero)) l p q r = r
in_order a b c x (suc (suc (suc i))) l p q r = absurd (omega arith)

pub before_small : (b : Option Axis) → before_code b ≤ 2
before_small None = omega arith
before_small (Some NorthSouth) = omega arith
before_small (Some EastWest) = omega arith

module _ {G : Net} {F : Lanes} {nx ny : ℕ} (m : Mapped G F nx ny) (z : Sized G 4356) {top low : List ℕ} (s : Searched G F nx ny top low) (ei : Inside nx ny F.end) where
  abbrev L : ℕ → ℕ → ℕ
  L = label_at F nx (key_at top low)

  pub relaxed_here : Relaxed G F.end L
  relaxed_here = relaxed m s ei

  module _ (v a key : ℕ) (i : Inside nx ny v) (ne : v ≡ F.end → ⊥) (al : a ≤ 2) (ke : key ≡ L a v) (h : key < unreached) where
    -- some step is tight
    some : (u : ℕ) × Tight G L a v u
    some = go t.path (reached G F.end 4356 z L relaxed_here a v al t) refl
      where
        t : Attained G F.end a v (L a v)
        t = label_attained m s a v al i (omega arith)

        go : {w : ℕ} {us : List ℕ} → Path G F.end w us → key_from G a us ≡ L a v → w ≡ v → (u : ℕ) × Tight G L a v u
        go (arrive st) q x = absurd (ne (sym x))
        go (onward {v = w} {u = u} st p) q x =
            (u, subst (λ (y : ℕ). Tight G L a y u) x (first G F.end 4356 z L relaxed_here a al st p (q ∙ ap (L a) (sym x))).tight)

    abbrev Ld : ℕ → Type 0
    Ld d = Leading F L v (step_of F.steps d v) (axis_by d) a key

    led : (d : ℕ) → d ≤ 3 → step_of F.steps d v < 4356 → Led G F d v (step_of F.steps d v)
    led d dl = m.leads d v dl (inside_below m.east_few m.north_few i)

    sum_is : (d : ℕ) → (t : Led G F d v (step_of F.steps d v)) → weight G a v (step_of F.steps d v) + L (G.axis v (step_of F.steps d v)) (step_of F.steps d v)
        ≡ 65536 * span F.xs F.ys v (step_of F.steps d v) + L (axis_by d) (step_of F.steps d v) + 1638401 * turn a (axis_by d)
    sum_is d t = omega (arith, weight_is m s a d v (step_of F.steps d v) t, ap (λ (b : ℕ). L b (step_of F.steps d v)) t.axis)

    leads_tight : (d : ℕ) → d ≤ 3 → Ld d → Tight G L a v (step_of F.steps d v)
    leads_tight d dl l = let t = led d dl l.below in record { step = t.step; sum = sym ke ∙ l.sum ∙ sym (sum_is d t) }

    record Found (u : ℕ) : Type 0 where
      direction : ℕ
      small : direction ≤ 3
      there : step_of F.steps direction v ≡ u
      leading : Ld direction

    tight_leads : (u : ℕ) → Tight G L a v u → Found u
    tight_leads u t =
        let o = m.only t.step in
        let b : step_of F.steps o.0 v < 4356 = omega (arith, o.2, inside_below m.east_few m.north_few (m.to t.step)) in
        let q : L a v ≡ weight G a v (step_of F.steps o.0 v) + L (G.axis v (step_of F.steps o.0 v)) (step_of F.steps o.0 v) = rw o.2 t.sum in
        record { direction = o.0; small = o.1; there = o.2; leading = record { below = b; sum = ke ∙ q ∙ sum_is o.0 (led o.0 o.1 b) } }

    pub next_found : (d : ℕ) → d ≤ 3 → ((j : ℕ) → j < d → Ld j → ⊥) → Ld d → NextIs G F L a v d
    next_found d dl none l = record { small = dl; below = l.below; tight = leads_tight d dl l; lowest = λ w t. lowest_of w (tight_leads w t) }
      where
        lowest_of : (w : ℕ) → Found w → step_of F.steps d v ≤ w
        lowest_of w f = go (dec_lt f.direction d) (dec_lt d f.direction)
          where
            go : Dec (f.direction < d) → Dec (d < f.direction) → step_of F.steps d v ≤ w
            go (yes k) x = absurd (none f.direction k f.leading)
            go (no k) (yes j) =
                omega (arith, (rank (led d dl l.below).toward).1, (rank (led f.direction f.small f.leading.below).toward).0, f.there)
            go (no k) (no j) = let q : f.direction ≡ d = omega arith in omega (arith, ap (λ (x : ℕ). step_of F.steps x v) q, f.there)

    pub next_last : (d : ℕ) → d ≤ 3 → 3 ≤ d → ((j : ℕ) → j < d → Ld j → ⊥) → NextIs G F L a v d
    next_last d dl dh none = go (tight_leads some.0 some.1)
      where
        go : Found some.0 → NextIs G F L a v d
        go f = elim (dec_lt f.direction d) [
          | yes k ↦ absurd (none f.direction k f.leading)
          | no k ↦ let q : f.direction ≡ d = omega (arith, f.small) in next_found d dl none (subst Ld q f.leading)
        ]
