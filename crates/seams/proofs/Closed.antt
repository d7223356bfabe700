-- A side's two numbers (x, y) and the weights (u, s) of a point of the straight: the point is left of the side or on it where u x + s y ≥ 0.
use mathlib.Core.Path.{sym, subst}
use mathlib.Core.Logic.{◌⊎◌, inl, inr}
use Prim.Native.Nat.{ℕ, zero, suc, ◌+◌, ◌*◌, ◌<◌, ◌≤◌}
use native.Mathlib.Nat.{mul-le-mul_left, mul-le-mul_right, le_of_mul-le-mul_right, le_of_mul-le-mul_left, mul-le-mul}
use native.Mathlib.Omega.{arith}
use lib.IntN.{ℤ, pos, negsuc, ◌*ℤ◌}
use lib.Signed.{◌≤ℤ◌, ◌<ℤ◌}
use Rattle.geometry.proofs.Signed.{◌⊖◌, diff, undiff, ⊖-le, le-⊖, posn, negsuc-⊖, lt-⊖, nonneg}
use Rattle.seams.specs.inner.Reach.{On, Bounds, Common}

-- ---- by sign
pub negative : (P : ℤ → Type 0) → ((a : ℕ) → P (0 ⊖ suc a)) → (z : ℤ) → z <ℤ pos 0 → P z
negative P f (pos n) h = absurd (no_lt n (lt-⊖ n 0 0 0 (subst (λ z. z <ℤ (0 ⊖ 0)) (posn n) (subst (λ z. pos n <ℤ z) (posn 0) h))))
  where
    no_lt : (n : ℕ) → n + 0 < 0 + 0 → ⊥
    no_lt n h = omega arith
negative P f (negsuc n) h = subst P (sym (negsuc-⊖ n 0 (suc n) (omega arith))) (f n)

pub swap : (u s : ℕ) (x y : ℤ) → On u s x y → On s u y x
swap u s =
    undiff (λ x. (y : ℤ) → On u s x y → On s u y x) (λ a a'.
    undiff (λ y. On u s (a ⊖ a') y → On s u y (a ⊖ a')) (λ b b'.
    simp diff (λ h. ⊖-le _ _ _ _ (omega (arith, le-⊖ _ _ _ _ h)))))

-- ---- sides that ask nothing, and sides that nothing meets
pub on_both : (u s : ℕ) (x y : ℤ) → pos 0 ≤ℤ x → pos 0 ≤ℤ y → On u s x y
on_both u s x y x₀ y₀ =
    nonneg (λ x. On u s x y) (λ a. nonneg (λ y. On u s (a ⊖ 0) y) (λ b. simp diff (⊖-le _ _ _ _ (omega arith))) y y₀) x x₀

neither_ℕ : (u s a b : ℕ) → 1 ≤ u + s → u * suc a + s * suc b ≤ 0 → ⊥
neither_ℕ u s a b h k = omega arith

pub on_neither : (u s : ℕ) (x y : ℤ) → 1 ≤ u + s → x <ℤ pos 0 → y <ℤ pos 0 → On u s x y → ⊥
on_neither u s x y w x₀ y₀ =
    negative (λ x. On u s x y → ⊥) (λ a. negative (λ y. On u s (0 ⊖ suc a) y → ⊥) (λ b. simp diff (λ h. neither_ℕ u s a b w (omega (arith, le-⊖ _ _ _ _ h)))) y y₀) x x₀

pub on_first : (x y : ℤ) → pos 0 ≤ℤ x → On 1 0 x y
on_first x y x₀ =
    nonneg (λ x. On 1 0 x y) (λ a. undiff (λ y. On 1 0 (a ⊖ 0) y) (λ b b'. simp diff (⊖-le _ _ _ _ (omega arith))) y) x x₀

pub on_last : (x y : ℤ) → pos 0 ≤ℤ y → On 0 1 x y
on_last x y y₀ = swap 1 0 y x (on_first y x y₀)

-- ---- tighter
tight_ℕ : (u s a a' b p p' r : ℕ) → a * r + p' * suc b ≤ p * suc b + a' * r → u * a' ≤ u * a + s * suc b → u * p' ≤ u * p + s * r
tight_ℕ u s a a' b p p' r h k =
    le_of_mul-le-mul_right {m = u * p'} {n = u * p + s * r} {k = suc b} (omega (arith, mul-le-mul_left u h, mul-le-mul_right r k)) (omega arith)

abbrev Tighter : ℕ → ℕ → ℤ → ℤ → ℤ → ℤ → Type 0
Tighter u s l r x y = (x *ℤ r) ≤ℤ (l *ℤ y) → On u s x y → On u s l r

-- the side bounds where its y is above 0, or y is 0 and x below
bounded : (P : ℤ → ℤ → Type 0) → ((a a' b : ℕ) → P (a ⊖ a') (suc b ⊖ 0)) → ((a : ℕ) → P (0 ⊖ suc a) (0 ⊖ 0)) → (x y : ℤ) → Bounds x y → P x y
bounded P f g x y h = nonneg (λ y. (x <ℤ pos 0) ⊎ (pos 0 <ℤ y) → P x y) go y h.above h.apart
  where
    flat : (x <ℤ pos 0) ⊎ (pos 0 <ℤ (0 ⊖ 0)) → P x (0 ⊖ 0)
    flat (inl n) = negative (λ x. P x (0 ⊖ 0)) g x n
    flat (inr n) = absurd (no_lt (lt-⊖ 0 0 0 0 (subst (λ z. z <ℤ (0 ⊖ 0)) (posn 0) n)))
      where
        no_lt : 0 + 0 < 0 + 0 → ⊥
        no_lt h = omega arith

    go : (b : ℕ) → (x <ℤ pos 0) ⊎ (pos 0 <ℤ (b ⊖ 0)) → P x (b ⊖ 0)
    go zero d = flat d
    go (suc b) d = undiff (λ x. P x (suc b ⊖ 0)) (λ a a'. f a a' b) x

flat_ℕ : (u s a p p' r : ℕ) → u * suc a ≤ 0 → u * p' ≤ u * p + s * r
flat_ℕ zero s a p p' r h = omega arith
flat_ℕ (suc u) s a p p' r h = absurd (omega arith)

pub tighter : (u s : ℕ) (x y l r : ℤ) → Bounds x y → pos 0 ≤ℤ r → (x *ℤ r) ≤ℤ (l *ℤ y) → On u s x y → On u s l r
tighter u s x y l r b r₀ =
    bounded (Tighter u s l r)
    (λ a a' b. nonneg (λ r. Tighter u s l r (a ⊖ a') (suc b ⊖ 0))
    (λ d. undiff (λ l. Tighter u s l (d ⊖ 0) (a ⊖ a') (suc b ⊖ 0))
    (λ p p'. simp diff (λ h k. ⊖-le _ _ _ _ (omega (arith, tight_ℕ u s a a' b p p' d (omega (arith, le-⊖ _ _ _ _ h)) (omega (arith, le-⊖ _ _ _ _ k)))))) l) r r₀)
    (λ a. nonneg (λ r. Tighter u s l r (0 ⊖ suc a) (0 ⊖ 0))
    (λ d. undiff (λ l. Tighter u s l (d ⊖ 0) (0 ⊖ suc a) (0 ⊖ 0))
    (λ p p'. simp diff (λ h k. ⊖-le _ _ _ _ (omega (arith, flat_ℕ u s a p p' d (omega (arith, le-⊖ _ _ _ _ k)))))) l) r r₀)
    x y b

pub tighter_up : (u s : ℕ) (x y p q : ℤ) → Bounds y x → pos 0 ≤ℤ p → (y *ℤ p) ≤ℤ (q *ℤ x) → On u s x y → On u s p q
tighter_up u s x y p q b p₀ h k = swap s u q p (tighter s u y x q p b p₀ h (swap u s x y k))

-- ---- two sides that meet
cancel_ℕ : (u s a b c d : ℕ) → suc u * suc a ≤ suc s * b → suc s * suc c ≤ suc u * d → suc a * suc c ≤ d * b
cancel_ℕ u s a b c d h k =
    le_of_mul-le-mul_left {m = suc a * suc c} {n = d * b} {k = suc u * suc s} (omega (arith, mul-le-mul h k)) (omega arith)

meet_ℕ : (u s a b c d : ℕ) → 1 ≤ u + s → u * suc a ≤ s * b → s * suc c ≤ u * d → suc a * suc c ≤ d * b
meet_ℕ zero zero a b c d w h k = absurd (omega arith)
meet_ℕ zero (suc s) a b c d w h k = absurd (omega arith)
meet_ℕ (suc u) zero a b c d w h k = absurd (omega arith)
meet_ℕ (suc u) (suc s) a b c d w h k = cancel_ℕ u s a b c d h k

pub meet_only : (u s : ℕ) (x y p q : ℤ) → 1 ≤ u + s → x <ℤ pos 0 → q <ℤ pos 0 → pos 0 ≤ℤ y → pos 0 ≤ℤ p → On u s x y → On u s p q → (x *ℤ q) ≤ℤ (p *ℤ y)
meet_only u s x y p q w x₀ q₀ y₀ p₀ =
    negative (λ x. On u s x y → On u s p q → (x *ℤ q) ≤ℤ (p *ℤ y)) (λ a.
    negative (λ q. On u s (0 ⊖ suc a) y → On u s p q → ((0 ⊖ suc a) *ℤ q) ≤ℤ (p *ℤ y)) (λ c.
    nonneg (λ y. On u s (0 ⊖ suc a) y → On u s p (0 ⊖ suc c) → ((0 ⊖ suc a) *ℤ (0 ⊖ suc c)) ≤ℤ (p *ℤ y)) (λ b.
    nonneg (λ p. On u s (0 ⊖ suc a) (b ⊖ 0) → On u s p (0 ⊖ suc c) → ((0 ⊖ suc a) *ℤ (0 ⊖ suc c)) ≤ℤ (p *ℤ (b ⊖ 0))) (λ d.
    simp diff (λ h k. ⊖-le _ _ _ _ (omega (arith, meet_ℕ u s a b c d w (omega (arith, le-⊖ _ _ _ _ h)) (omega (arith, le-⊖ _ _ _ _ k)))))) p p₀) y y₀) q q₀) x x₀

pub meet_if : (x y p q : ℤ) → x <ℤ pos 0 → pos 0 ≤ℤ y → pos 0 ≤ℤ p → (x *ℤ q) ≤ℤ (p *ℤ y) → Common x y p q
unfolding Common
meet_if x y p q x₀ y₀ p₀ =
    negative (λ x. (x *ℤ q) ≤ℤ (p *ℤ y) → Common x y p q) (λ a.
    nonneg (λ y. ((0 ⊖ suc a) *ℤ q) ≤ℤ (p *ℤ y) → Common (0 ⊖ suc a) y p q) (λ b.
    nonneg (λ p. ((0 ⊖ suc a) *ℤ q) ≤ℤ (p *ℤ (b ⊖ 0)) → Common (0 ⊖ suc a) (b ⊖ 0) p q) (λ d.
    undiff (λ q. ((0 ⊖ suc a) *ℤ q) ≤ℤ ((d ⊖ 0) *ℤ (b ⊖ 0)) → Common (0 ⊖ suc a) (b ⊖ 0) (d ⊖ 0) q) (λ c c' h.
    let k : _ = le-⊖ _ _ _ _ (simp diff at h) in
    (b, suc a, omega arith, record { low = simp diff (⊖-le _ _ _ _ (omega arith)); up = simp diff (⊖-le _ _ _ _ (omega arith)) })) q) p p₀) y y₀) x x₀
