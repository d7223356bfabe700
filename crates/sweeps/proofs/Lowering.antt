-- Keys that are made less stay keys of paths.
use mathlib.Core.Path.{◌≡◌, refl, ap, ◌∙◌}
use mathlib.Core.Logic.{⊎_elim}
use mathlib.Core.List.{List}
use Prim.Native.Nat.{ℕ, ◌+◌, ◌≤◌, ◌<◌}
use native.Mathlib.Omega.{arith}
use native.Mathlib.Decide.{ℕ_discrete}
use Rattle.nets.specs.Net.{Net}
use Rattle.nets.specs.inner.Keys.{Attained}
use Rattle.sweeps.specs.inner.Keys.{key_at, unreached, Fair, Stored, Improved, Lowered}
use Rattle.sweeps.proofs.Storing.{top_kept, low_kept, key_here, key_there, total_put}

module _ {G : Net} {end : ℕ} where
  pub lowered_none : {top low : List ℕ} → Fair G end top low → Lowered G end top low top low 0
  lowered_none f = record { fair = f; falls = omega arith; still = λ e. (refl, refl) }

  pub lowered_then : {top low top₁ low₁ top₂ low₂ : List ℕ} {r s : ℕ} → Lowered G end top low top₁ low₁ r → Lowered G end top₁ low₁ top₂ low₂ s → Lowered G end top low top₂ low₂ (r + s)
  lowered_then a b =
      record {
        fair = b.fair;
        falls = omega (arith, a.falls, b.falls);
        still = λ e. ((b.still (omega arith)).0 ∙ (a.still (omega arith)).0, (b.still (omega arith)).1 ∙ (a.still (omega arith)).1);
      }

  module _ {top low : List ℕ} (f : Fair G end top low) {v key : ℕ} (vl : v < 4356) where
    fair_put : {top' low' : List ℕ} → Stored top low v key top' low' → key < key_at top low v → Attained G end 0 v key → Fair G end top' low'
    fair_put {top'} {low'} s l at =
        record {
          top_sized = top_kept s f.top_sized f.low_sized;
          low_sized = low_kept s f.top_sized f.low_sized;
          capped = λ w h. cap w h (ℕ_discrete w v);
          at_end = ends (ℕ_discrete end v);
          attained = λ w wl h. got w wl h (ℕ_discrete w v);
        }
      where
        here : key_at top' low' v ≡ key
        here = key_here s f.top_sized f.low_sized vl

        there : (w : ℕ) → (w ≡ v → ⊥) → key_at top' low' w ≡ key_at top low w
        there = key_there s f.top_sized f.low_sized vl

        cap : (w : ℕ) → w < 4356 → Dec (w ≡ v) → key_at top' low' w ≤ unreached
        cap w h (yes e) = omega (arith, ap (key_at top' low') e, here, f.capped v vl)
        cap w h (no e) = omega (arith, there w e, f.capped w h)

        ends : Dec (end ≡ v) → key_at top' low' end ≡ 0
        ends (yes e) = absurd (omega (arith, ap (key_at top low) e, f.at_end))
        ends (no e) = there end e ∙ f.at_end

        got : (w : ℕ) → w < 4356 → key_at top' low' w < unreached → Dec (w ≡ v) → Attained G end 0 w (key_at top' low' w)
        got w wl h (yes e) = rw (e, here) at
        got w wl h (no e) = rw (there w e) (f.attained w wl (omega (arith, there w e)))

    -- one key made less or not
    pub lowered_one : {top' low' : List ℕ} {r : ℕ} → (key < unreached → Attained G end 0 v key) → Improved top low v key top' low' r → Lowered G end top low top' low' r
    lowered_one {top'} {low'} {r} at i = ⊎_elim no_less less i.came
      where
        no_less : (r ≡ 0) × (key_at top low v ≤ key) × (top' ≡ top) × (low' ≡ low) → Lowered G end top low top' low' r
        no_less h = rw (h.0, h.2, h.3) (lowered_none f)

        less : (r ≡ 1) × (key < key_at top low v) × Stored top low v key top' low' → Lowered G end top low top' low' r
        less h =
            record {
              fair = fair_put h.2 h.1 (at (omega (arith, h.1, f.capped v vl)));
              falls = omega (arith, h.0, h.1, total_put h.2 f.top_sized f.low_sized vl);
              still = λ e. absurd (omega (arith, h.0));
            }

    pub improved_not : {top' low' : List ℕ} {r : ℕ} → Improved top low v key top' low' r → r ≡ 0 → key_at top low v ≤ key
    improved_not i e = ⊎_elim (λ h. h.1) (λ h. absurd (omega (arith, h.0))) i.came
