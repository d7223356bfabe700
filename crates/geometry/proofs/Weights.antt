-- A side's two numbers (x, y), where the straight's ends stand against it, and the weights (u, s) of a point of the straight: the point is inside the side where u x + s y > 0.
use mathlib.Core.Path.{◌≡◌}
use mathlib.Core.Logic.{⊎_elim}
use Prim.Native.Nat.{ℕ, suc, ◌+◌, ◌*◌, ◌-◌, ◌<◌, ◌≤◌}
use native.Mathlib.Nat.{mul-le-mul_left, mul-lt-mul_of_pos_right, lt_of_mul-lt-mul_right, lt_of_mul-lt-mul_left, mul-le-mul}
use native.Mathlib.Omega.{arith}
use lib.IntN.{ℤ, pos, ◌+ℤ◌, ◌-ℤ◌, ◌*ℤ◌}
use lib.Signed.{◌≤ℤ◌, ◌<ℤ◌, clash_ℤ}
use Rattle.geometry.specs.inner.Sides.{In, Inside, Enters, Meets}
use Rattle.geometry.proofs.Signed.{below_or_not, ◌⊖◌, diff, undiff, nonpos, positive, ⊖-eq, ⊖-lt, lt-⊖, le-⊖}

-- the point n A + t (B − A), with n = u + t, has the weights u and t
pub between : (u t : ℕ) (x y : ℤ) → (pos (u + t) -ℤ pos t) *ℤ x +ℤ pos t *ℤ y ≡ pos u *ℤ x +ℤ pos t *ℤ y
between u t = undiff _ (λ a a'. undiff _ (λ b b'. simp diff (⊖-eq _ _ _ _ (omega arith))))

pub swap : (u s : ℕ) (x y : ℤ) → In u s x y → In s u y x
swap u s =
    undiff (λ x. (y : ℤ) → In u s x y → In s u y x) (λ a a'.
    undiff (λ y. In u s (a ⊖ a') y → In s u y (a ⊖ a')) (λ b b'.
    simp diff (λ h. ⊖-lt _ _ _ _ (omega (arith, lt-⊖ _ _ _ _ h)))))

-- ---- tighter
tight_ℕ : (u s a a' y p p' r : ℕ) → 0 < y → 0 < r → a * r + p' * y ≤ p * y + a' * r → u * a' < u * a + s * y → u * p' < u * p + s * r
tight_ℕ u s a a' y p p' r y₀ r₀ h k =
    lt_of_mul-lt-mul_right y {m = u * p'} {n = u * p + s * r} (omega (arith, mul-le-mul_left u h, mul-lt-mul_of_pos_right k r₀))

pub tighter : (u s : ℕ) (x y l r : ℤ) → pos 0 <ℤ y → pos 0 <ℤ r → (x *ℤ r) ≤ℤ (l *ℤ y) → In u s x y → In u s l r
tighter u s x y l r y₀ r₀ =
    positive (λ y. (x *ℤ r) ≤ℤ (l *ℤ y) → In u s x y → In u s l r)
    (λ b. positive (λ r. (x *ℤ r) ≤ℤ (l *ℤ (suc b ⊖ 0)) → In u s x (suc b ⊖ 0) → In u s l r)
    (λ d. undiff (λ x. (x *ℤ (suc d ⊖ 0)) ≤ℤ (l *ℤ (suc b ⊖ 0)) → In u s x (suc b ⊖ 0) → In u s l (suc d ⊖ 0))
    (λ a a'. undiff (λ l. ((a ⊖ a') *ℤ (suc d ⊖ 0)) ≤ℤ (l *ℤ (suc b ⊖ 0)) → In u s (a ⊖ a') (suc b ⊖ 0) → In u s l (suc d ⊖ 0))
    (λ p p'. simp diff (λ h k. ⊖-lt _ _ _ _ (omega (arith, tight_ℕ u s a a' (suc b) p p' (suc d) (omega arith) (omega arith) (omega (arith, le-⊖ _ _ _ _ h)) (omega (arith, lt-⊖ _ _ _ _ k)))))) l) x) r r₀) y y₀

pub tighter_up : (u s : ℕ) (x y p q : ℤ) → pos 0 <ℤ x → pos 0 <ℤ p → (y *ℤ p) ≤ℤ (q *ℤ x) → In u s x y → In u s p q
tighter_up u s x y p q x₀ p₀ h k = swap s u q p (tighter s u y x q p x₀ p₀ h (swap u s x y k))

-- ---- sides that ask nothing, and sides that nothing meets
pub in_both : (u s : ℕ) (x y : ℤ) → 1 ≤ u + s → pos 0 <ℤ x → pos 0 <ℤ y → In u s x y
in_both u s x y h x₀ y₀ =
    positive (λ x. In u s x y) (λ a. positive (λ y. In u s (suc a ⊖ 0) y) (λ b. simp diff (⊖-lt _ _ _ _ (omega arith))) y y₀) x x₀

pub in_neither : (u s : ℕ) (x y : ℤ) → x ≤ℤ pos 0 → y ≤ℤ pos 0 → In u s x y → ⊥
in_neither u s x y x₀ y₀ =
    nonpos (λ x. In u s x y → ⊥) (λ a. nonpos (λ y. In u s (0 ⊖ a) y → ⊥) (λ b. simp diff (λ h. omega (arith, lt-⊖ _ _ _ _ h))) y y₀) x x₀

pub in_first : (x y : ℤ) → pos 0 <ℤ x → In 1 0 x y
in_first x y x₀ =
    positive (λ x. In 1 0 x y) (λ a. undiff (λ y. In 1 0 (suc a ⊖ 0) y) (λ b b'. simp diff (⊖-lt _ _ _ _ (omega arith))) y) x x₀

pub in_last : (x y : ℤ) → pos 0 <ℤ y → In 0 1 x y
in_last x y y₀ = swap 1 0 y x (in_first y x y₀)

-- ---- two sides that meet
meet_ℕ : (u s a b p q : ℕ) → u * a < s * b → s * q < u * p → a * q < p * b
meet_ℕ u s a b p q h k =
    lt_of_mul-lt-mul_left (u * s) {m = a * q} {n = p * b} (omega (arith, mul-le-mul h k))

pub meet_only : (u s : ℕ) (x y p q : ℤ) → x ≤ℤ pos 0 → q ≤ℤ pos 0 → pos 0 <ℤ y → pos 0 <ℤ p → In u s x y → In u s p q → (x *ℤ q) <ℤ (p *ℤ y)
meet_only u s x y p q x₀ q₀ y₀ p₀ =
    nonpos (λ x. In u s x y → In u s p q → (x *ℤ q) <ℤ (p *ℤ y)) (λ a.
    nonpos (λ q. In u s (0 ⊖ a) y → In u s p q → ((0 ⊖ a) *ℤ q) <ℤ (p *ℤ y)) (λ c.
    positive (λ y. In u s (0 ⊖ a) y → In u s p (0 ⊖ c) → ((0 ⊖ a) *ℤ (0 ⊖ c)) <ℤ (p *ℤ y)) (λ b.
    positive (λ p. In u s (0 ⊖ a) (suc b ⊖ 0) → In u s p (0 ⊖ c) → ((0 ⊖ a) *ℤ (0 ⊖ c)) <ℤ (p *ℤ (suc b ⊖ 0))) (λ d.
    simp diff (λ h k. ⊖-lt _ _ _ _ (omega (arith, meet_ℕ u s a (suc b) (suc d) c (omega (arith, lt-⊖ _ _ _ _ h)) (omega (arith, lt-⊖ _ _ _ _ k)))))) p p₀) y y₀) q q₀) x x₀

pub meet_if : (x y p q : ℤ) → x ≤ℤ pos 0 → q ≤ℤ pos 0 → pos 0 <ℤ y → pos 0 <ℤ p → (x *ℤ q) <ℤ (p *ℤ y) → Meets x y p q
unfolding Meets
meet_if x y p q x₀ q₀ y₀ p₀ =
    nonpos (λ x. (x *ℤ q) <ℤ (p *ℤ y) → Meets x y p q) (λ a.
    nonpos (λ q. ((0 ⊖ a) *ℤ q) <ℤ (p *ℤ y) → Meets (0 ⊖ a) y p q) (λ c.
    positive (λ y. ((0 ⊖ a) *ℤ (0 ⊖ c)) <ℤ (p *ℤ y) → Meets (0 ⊖ a) y p (0 ⊖ c)) (λ b.
    positive (λ p. ((0 ⊖ a) *ℤ (0 ⊖ c)) <ℤ (p *ℤ (suc b ⊖ 0)) → Meets (0 ⊖ a) (suc b ⊖ 0) p (0 ⊖ c)) (λ d h.
    let k : _ = lt-⊖ _ _ _ _ (simp diff at h) in
    (suc b + c, a + suc d, omega arith, simp diff (⊖-lt _ _ _ _ (omega arith)), simp diff (⊖-lt _ _ _ _ (omega arith)))) p p₀) y y₀) q q₀) x x₀

pub meet_first : (x y p q : ℤ) → pos 0 <ℤ x → pos 0 <ℤ p → Meets x y p q
unfolding Meets
meet_first x y p q x₀ p₀ = (1, 0, omega arith, in_first x y x₀, in_first p q p₀)

pub meet_last : (x y p q : ℤ) → pos 0 <ℤ y → pos 0 <ℤ q → Meets x y p q
unfolding Meets
meet_last x y p q y₀ q₀ = (0, 1, omega arith, in_last x y y₀, in_last p q q₀)

pub meets_dec : (x y p q : ℤ) → pos 0 <ℤ y → pos 0 <ℤ p → Dec (Meets x y p q)
unfolding Meets
meets_dec x y p q y₀ p₀ =
    ⊎_elim (λ x₀. yes (meet_first x y p q x₀ p₀))
    (λ x₁. ⊎_elim (λ q₀. yes (meet_last x y p q y₀ q₀))
    (λ q₁. ⊎_elim (λ t. yes (meet_if x y p q x₁ q₁ y₀ p₀ t)) (λ t. no (λ m. clash_ℤ (meet_only m.0 m.1 x y p q x₁ q₁ y₀ p₀ m.3 m.4) t))
    (below_or_not (x *ℤ q) (p *ℤ y)))
    (below_or_not (pos 0) q))
    (below_or_not (pos 0) x)

-- ---- all sides at once
pub enters_of : (m : ℕ) (x y : ℕ → ℤ) (u s : ℕ) → 1 ≤ u + s → Inside m x y u s → Enters m x y
unfolding Enters
enters_of m x y u s h i = (u + s, s, h, omega arith, (λ k l. rw between (i k l)))

pub of_enters : (m : ℕ) (x y : ℕ → ℤ) → Enters m x y → (u : ℕ) × (s : ℕ) × (1 ≤ u + s) × Inside m x y u s
unfolding Enters
of_enters m x y h =
    let n = h.0 in
    let t = h.1 in
    let e : n ≡ n - t + t = omega (arith, h.3) in
    (n - t, t, omega (arith, h.2, h.3), (λ k l. rw between at (rw e at (h.4 k l))))
