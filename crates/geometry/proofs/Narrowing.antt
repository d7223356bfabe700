-- One side more.
use mathlib.Core.Path.{◌≡◌, ◌∙◌}
use mathlib.Core.Bool.{Bool, true, false}
use mathlib.Core.Logic.{◌⊎◌, inl, inr, ⊎_elim}
use lib.IntN.{ℤ, pos, ◌*ℤ◌}
use lib.Signed.{◌<ℤ◌, ◌≤ℤ◌, lt_z, clash_ℤ}
use mir.Syntax.{w64}
use mir.Val.{SFits, to_z, of_z}
use mir.ValLaws.{to_z-of_z}
use Rattle.geometry.proofs.Signed.{below_or_not, lt_le}
use Rattle.geometry.specs.inner.Sides.{Within, Small, Narrowed, Meets}
use Rattle.geometry.proofs.Bound.{test_yes, test_no}
use Rattle.lists.specs.inner.Tells.{Tells}
use Rattle.geometry.proofs.Weights.{meet_only, meet_if}
use Rattle.geometry.proofs.Sides.{span_both, span_low, span_low_keep, span_up, span_up_keep}

-- by the tests
module _ (l r p q x y : ℤ) (n : Small l r p q) (wx : Within 2200000000 x) (wy : Within 2200000000 y) where
  pub step_both : pos 0 <ℤ x → pos 0 <ℤ y → Narrowed l r p q x y l r p q
  step_both x₀ y₀ = record { small = n; span = λ m f g e i h. span_both m f g h (rw e x₀) (rw i y₀) }

  pub step_up : pos 0 <ℤ x → (y *ℤ p) <ℤ (q *ℤ x) → Narrowed l r p q x y l r x y
  step_up x₀ t =
      record {
        small = record { small_l = n.small_l; small_r = n.small_r; small_p = wx; small_q = wy };
        span = λ m f g e i h. rw (← e, ← i) (span_up m f g h (rw e x₀) (rw (e, i) (lt_le t)));
      }

  pub step_up_keep : pos 0 <ℤ x → (q *ℤ x) ≤ℤ (y *ℤ p) → Narrowed l r p q x y l r p q
  step_up_keep x₀ t = record { small = n; span = λ m f g e i h. span_up_keep m f g h (rw e x₀) (rw (e, i) t) }

  pub step_low : pos 0 <ℤ y → (x *ℤ r) <ℤ (l *ℤ y) → Narrowed l r p q x y x y p q
  step_low y₀ t =
      record {
        small = record { small_l = wx; small_r = wy; small_p = n.small_p; small_q = n.small_q };
        span = λ m f g e i h. rw (← e, ← i) (span_low m f g h (rw i y₀) (rw (e, i) (lt_le t)));
      }

  pub step_low_keep : pos 0 <ℤ y → (l *ℤ y) ≤ℤ (x *ℤ r) → Narrowed l r p q x y l r p q
  step_low_keep y₀ t = record { small = n; span = λ m f g e i h. span_low_keep m f g h (rw i y₀) (rw (e, i) t) }

-- what `steeper` ensures, of numbers that it was passed by their bits
module _ (x y l r : ℤ) (fx : SFits w64 x) (fy : SFits w64 y) (fl : SFits w64 l) (fr : SFits w64 r) {t : Bool}
    (e : t ≡ lt_z (to_z w64 (of_z w64 x) *ℤ to_z w64 (of_z w64 r)) (to_z w64 (of_z w64 l) *ℤ to_z w64 (of_z w64 y))) where
  plain : t ≡ lt_z (x *ℤ r) (l *ℤ y)
  plain = e ∙ (λ i. lt_z (to_z-of_z w64 x fx i *ℤ to_z-of_z w64 r fr i) (to_z-of_z w64 l fl i *ℤ to_z-of_z w64 y fy i))

  pub steeper_yes : t ≡ true → (x *ℤ r) <ℤ (l *ℤ y)
  steeper_yes h = test_yes _ _ h plain

  pub steeper_no : t ≡ false → (l *ℤ y) ≤ℤ (x *ℤ r)
  steeper_no h = test_no _ _ h plain

-- ---- what the two say at the end
pub parts : (l r p q : ℤ) (t : Bool) → l ≤ℤ pos 0 → q ≤ℤ pos 0 → pos 0 <ℤ r → pos 0 <ℤ p → (t ≡ true → (l *ℤ q) <ℤ (p *ℤ r)) → (t ≡ false → (p *ℤ r) ≤ℤ (l *ℤ q))
    → Tells (Meets l r p q) t
unfolding Meets
parts l r p q t l₀ q₀ r₀ p₀ y n =
    record {
      yes' = λ e. meet_if l r p q l₀ q₀ r₀ p₀ (y e);
      no' = λ e m. clash_ℤ (meet_only m.0 m.1 l r p q l₀ q₀ r₀ p₀ m.3 m.4) (n e);
    }

-- neither is above 0
pub neither : (x y : ℤ) → ((pos 0 <ℤ x) ⊎ (pos 0 <ℤ y) → ⊥) → (x ≤ℤ pos 0) × (y ≤ℤ pos 0)
neither x y h =
    (⊎_elim (λ a. absurd (h (inl a))) (λ b. b) (below_or_not (pos 0) x), ⊎_elim (λ a. absurd (h (inr a))) (λ b. b) (below_or_not (pos 0) y))
