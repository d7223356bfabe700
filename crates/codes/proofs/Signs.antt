-- Sums and products of integers, by their signs.
use mathlib.Core.Path.{◌≡◌}
use Prim.Native.Nat.{ℕ, zero, suc, ◌+◌, ◌*◌, ◌<◌, ◌≤◌}
use native.Mathlib.Nat.{mul-le-mul_left, le_of_mul-le-mul_left}
use native.Mathlib.Omega.{arith}
use lib.Dec.{ltb→lt}
use lib.IntN.{ℤ, pos, negsuc, ◌+ℤ◌, ◌-ℤ◌, ◌*ℤ◌}
use lib.Signed.{◌<ℤ◌, ◌≤ℤ◌}
use Rattle.geometry.proofs.Signed.{◌⊖◌, posn, negsuc-⊖, diff, undiff, nonpos, positive, ⊖-lt, ⊖-le, lt-⊖, le-⊖}
use Rattle.seams.specs.inner.Reach.{On}

nonneg : (P : ℤ → Type 0) → ((a : ℕ) → P (a ⊖ 0)) → (z : ℤ) → pos 0 ≤ℤ z → P z
nonneg P f (pos n) h = rw (posn n) (f n)
nonneg P f (negsuc n) h = absurd h.le

negative : (P : ℤ → Type 0) → ((a : ℕ) → P (0 ⊖ suc a)) → (z : ℤ) → z <ℤ pos 0 → P z
negative P f (pos n) h = absurd (no_lt (ltb→lt n 0 h.lt))
  where
    no_lt : n < 0 → ⊥
    no_lt h = omega arith
negative P f (negsuc n) h = rw (negsuc-⊖ n 0 (suc n) (omega arith)) (f n)

-- s + k f
pub sum_low : (s k f : ℤ) → s ≤ℤ pos 0 → pos 0 <ℤ k → f <ℤ pos 0 → (s +ℤ k *ℤ f) <ℤ pos 0
sum_low s k f s₀ k₀ f₀ =
    nonpos (λ s. (s +ℤ k *ℤ f) <ℤ pos 0) (λ a. positive (λ k. ((0 ⊖ a) +ℤ k *ℤ f) <ℤ pos 0) (λ b. negative (λ f. ((0 ⊖ a) +ℤ (suc b ⊖ 0) *ℤ f) <ℤ pos 0) (λ c.
    simp diff (⊖-lt _ _ _ _ (omega arith))) f f₀) k k₀) s s₀

pub sum_down : (s k f : ℤ) → s <ℤ pos 0 → pos 0 <ℤ k → f ≤ℤ pos 0 → (s +ℤ k *ℤ f) <ℤ pos 0
sum_down s k f s₀ k₀ f₀ =
    negative (λ s. (s +ℤ k *ℤ f) <ℤ pos 0) (λ a. positive (λ k. ((0 ⊖ suc a) +ℤ k *ℤ f) <ℤ pos 0) (λ b. nonpos (λ f. ((0 ⊖ suc a) +ℤ (suc b ⊖ 0) *ℤ f) <ℤ pos 0) (λ c.
    simp diff (⊖-lt _ _ _ _ (omega arith))) f f₀) k k₀) s s₀

pub sum_up : (s k f : ℤ) → pos 0 <ℤ s → pos 0 <ℤ k → pos 0 ≤ℤ f → pos 0 <ℤ (s +ℤ k *ℤ f)
sum_up s k f s₀ k₀ f₀ =
    positive (λ s. pos 0 <ℤ (s +ℤ k *ℤ f)) (λ a. positive (λ k. pos 0 <ℤ ((suc a ⊖ 0) +ℤ k *ℤ f)) (λ b. nonneg (λ f. pos 0 <ℤ ((suc a ⊖ 0) +ℤ (suc b ⊖ 0) *ℤ f)) (λ c.
    simp diff (⊖-lt _ _ _ _ (omega arith))) f f₀) k k₀) s s₀

pub sum_high : (s k f : ℤ) → pos 0 ≤ℤ s → pos 0 <ℤ k → pos 0 <ℤ f → pos 0 <ℤ (s +ℤ k *ℤ f)
sum_high s k f s₀ k₀ f₀ =
    nonneg (λ s. pos 0 <ℤ (s +ℤ k *ℤ f)) (λ a. positive (λ k. pos 0 <ℤ ((a ⊖ 0) +ℤ k *ℤ f)) (λ b. positive (λ f. pos 0 <ℤ ((a ⊖ 0) +ℤ (suc b ⊖ 0) *ℤ f)) (λ c.
    simp diff (⊖-lt _ _ _ _ (omega arith))) f f₀) k k₀) s s₀

pub sum_flat : (s k f : ℤ) → s ≤ℤ pos 0 → k ≤ℤ pos 0 → pos 0 ≤ℤ k → (s +ℤ k *ℤ f) ≤ℤ pos 0
sum_flat s k f s₀ k₀ =
    nonpos (λ s. pos 0 ≤ℤ k → (s +ℤ k *ℤ f) ≤ℤ pos 0) (λ a. nonpos (λ k. pos 0 ≤ℤ k → ((0 ⊖ a) +ℤ k *ℤ f) ≤ℤ pos 0) (λ b. undiff (λ f. pos 0 ≤ℤ (0 ⊖ b) → ((0 ⊖ a) +ℤ (0 ⊖ b) *ℤ f) ≤ℤ pos 0) (λ c c'.
    simp diff (λ h. let e : b ≡ 0 = omega (arith, le-⊖ _ _ _ _ h) in rw e (⊖-le _ _ _ _ (omega arith)))) f) k k₀) s s₀

-- w c + z d
pub two_up : (w c z d : ℤ) → pos 0 <ℤ w → pos 0 <ℤ c → pos 0 <ℤ z → pos 0 ≤ℤ d → pos 0 <ℤ (w *ℤ c +ℤ z *ℤ d)
two_up w c z d w₀ c₀ z₀ d₀ =
    positive (λ w. pos 0 <ℤ (w *ℤ c +ℤ z *ℤ d)) (λ a. positive (λ c. pos 0 <ℤ ((suc a ⊖ 0) *ℤ c +ℤ z *ℤ d)) (λ b.
    positive (λ z. pos 0 <ℤ ((suc a ⊖ 0) *ℤ (suc b ⊖ 0) +ℤ z *ℤ d)) (λ e. nonneg (λ d. pos 0 <ℤ ((suc a ⊖ 0) *ℤ (suc b ⊖ 0) +ℤ (suc e ⊖ 0) *ℤ d)) (λ f.
    simp diff (⊖-lt _ _ _ _ (omega arith))) d d₀) z z₀) c c₀) w w₀

pub two_level : (w c z d : ℤ) → pos 0 <ℤ w → pos 0 ≤ℤ c → pos 0 <ℤ z → pos 0 ≤ℤ d → pos 0 ≤ℤ (w *ℤ c +ℤ z *ℤ d)
two_level w c z d w₀ c₀ z₀ d₀ =
    positive (λ w. pos 0 ≤ℤ (w *ℤ c +ℤ z *ℤ d)) (λ a. nonneg (λ c. pos 0 ≤ℤ ((suc a ⊖ 0) *ℤ c +ℤ z *ℤ d)) (λ b.
    positive (λ z. pos 0 ≤ℤ ((suc a ⊖ 0) *ℤ (b ⊖ 0) +ℤ z *ℤ d)) (λ e. nonneg (λ d. pos 0 ≤ℤ ((suc a ⊖ 0) *ℤ (b ⊖ 0) +ℤ (suc e ⊖ 0) *ℤ d)) (λ f.
    simp diff (⊖-le _ _ _ _ (omega arith))) d d₀) z z₀) c c₀) w w₀

-- differences
pub gap_up : (x y : ℤ) → pos 0 <ℤ x → y ≤ℤ pos 0 → pos 0 <ℤ (x -ℤ y)
gap_up x y x₀ y₀ = positive (λ x. pos 0 <ℤ (x -ℤ y)) (λ a. nonpos (λ y. pos 0 <ℤ ((suc a ⊖ 0) -ℤ y)) (λ b. simp diff (⊖-lt _ _ _ _ (omega arith))) y y₀) x x₀

module _ (x y : ℤ) where
  pub lt_gap : y <ℤ x → pos 0 <ℤ (x -ℤ y)
  lt_gap = undiff (λ x. y <ℤ x → pos 0 <ℤ (x -ℤ y)) (λ a a'. undiff (λ y. y <ℤ (a ⊖ a') → pos 0 <ℤ ((a ⊖ a') -ℤ y)) (λ b b'. simp diff (λ h. ⊖-lt _ _ _ _ (omega (arith, lt-⊖ _ _ _ _ h)))) y) x

  pub gap_lt : x <ℤ y → (x -ℤ y) <ℤ pos 0
  gap_lt = undiff (λ x. x <ℤ y → (x -ℤ y) <ℤ pos 0) (λ a a'. undiff (λ y. (a ⊖ a') <ℤ y → ((a ⊖ a') -ℤ y) <ℤ pos 0) (λ b b'. simp diff (λ h. ⊖-lt _ _ _ _ (omega (arith, lt-⊖ _ _ _ _ h)))) y) x

  pub gap_le : x ≤ℤ y → (x -ℤ y) ≤ℤ pos 0
  gap_le = undiff (λ x. x ≤ℤ y → (x -ℤ y) ≤ℤ pos 0) (λ a a'. undiff (λ y. (a ⊖ a') ≤ℤ y → ((a ⊖ a') -ℤ y) ≤ℤ pos 0) (λ b b'. simp diff (λ h. ⊖-le _ _ _ _ (omega (arith, le-⊖ _ _ _ _ h)))) y) x

  pub le_gap : y ≤ℤ x → pos 0 ≤ℤ (x -ℤ y)
  le_gap = undiff (λ x. y ≤ℤ x → pos 0 ≤ℤ (x -ℤ y)) (λ a a'. undiff (λ y. y ≤ℤ (a ⊖ a') → pos 0 ≤ℤ ((a ⊖ a') -ℤ y)) (λ b b'. simp diff (λ h. ⊖-le _ _ _ _ (omega (arith, le-⊖ _ _ _ _ h)))) y) x

-- products of different sign
pub signs_apart : (x y z w : ℤ) → x ≤ℤ pos 0 → pos 0 <ℤ y → pos 0 <ℤ z → pos 0 <ℤ w → (x *ℤ y) <ℤ (z *ℤ w)
signs_apart x y z w x₀ y₀ z₀ w₀ =
    nonpos (λ x. (x *ℤ y) <ℤ (z *ℤ w)) (λ a. positive (λ y. ((0 ⊖ a) *ℤ y) <ℤ (z *ℤ w)) (λ b. positive (λ z. ((0 ⊖ a) *ℤ (suc b ⊖ 0)) <ℤ (z *ℤ w)) (λ c.
    positive (λ w. ((0 ⊖ a) *ℤ (suc b ⊖ 0)) <ℤ ((suc c ⊖ 0) *ℤ w)) (λ d. simp diff (⊖-lt _ _ _ _ (omega arith))) w w₀) z z₀) y y₀) x x₀

-- the first end not left of one side and left of the other, the second left of the first: a place left of both or on them orders the products
room_ℕ : (u s p q d b b' : ℕ) → 1 ≤ u + s → u * d ≤ s * q → s * b' ≤ u * p + s * b → d * b' ≤ p * q + d * b
room_ℕ zero zero p q d b b' w h k = absurd (omega arith)
room_ℕ (suc u) zero p q zero b b' w h k = omega arith
room_ℕ (suc u) zero p q (suc d) b b' w h k = absurd (omega arith)
room_ℕ u (suc s) p q d b b' w h k =
    le_of_mul-le-mul_left {m = d * b'} {n = p * q + d * b} {k = suc s} (omega (arith, mul-le-mul_left d k, mul-le-mul_left p h)) (omega arith)

pub room : (u s : ℕ) (x y p q : ℤ) → 1 ≤ u + s → x ≤ℤ pos 0 → pos 0 <ℤ y → pos 0 <ℤ p → On u s x y → On u s p q → (x *ℤ q) ≤ℤ (p *ℤ y)
room u s x y p q w x₀ y₀ p₀ =
    nonpos (λ x. On u s x y → On u s p q → (x *ℤ q) ≤ℤ (p *ℤ y)) (λ d.
    positive (λ y. On u s (0 ⊖ d) y → On u s p q → ((0 ⊖ d) *ℤ q) ≤ℤ (p *ℤ y)) (λ e.
    positive (λ p. On u s (0 ⊖ d) (suc e ⊖ 0) → On u s p q → ((0 ⊖ d) *ℤ q) ≤ℤ (p *ℤ (suc e ⊖ 0))) (λ c.
    undiff (λ q. On u s (0 ⊖ d) (suc e ⊖ 0) → On u s (suc c ⊖ 0) q → ((0 ⊖ d) *ℤ q) ≤ℤ ((suc c ⊖ 0) *ℤ (suc e ⊖ 0))) (λ b b'.
    simp diff (λ h k. ⊖-le _ _ _ _ (omega (arith, room_ℕ u s (suc c) (suc e) d b b' w (omega (arith, le-⊖ _ _ _ _ h)) (omega (arith, le-⊖ _ _ _ _ k)))))) q) p p₀) y y₀) x x₀
