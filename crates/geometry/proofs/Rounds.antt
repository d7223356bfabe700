-- A closed walk that turns left round a point at every step does not stay on one side of a line through the point.
use Prim.Native.Nat.{ℕ, zero, suc, ◌+◌, ◌*◌, ◌<◌, ◌≤◌}
use native.Mathlib.Nat.{mul-le-mul_left, mul-lt-mul_of_pos_left, lt_of_mul-lt-mul_left}
use native.Mathlib.Omega.{arith}
use lib.IntN.{ℤ, pos, ◌*ℤ◌}
use lib.Signed.{◌≤ℤ◌, ◌<ℤ◌}
use Rattle.geometry.proofs.Signed.{◌⊖◌, diff, undiff, nonneg, ⊖-lt, lt-⊖}

-- the vector (x', y') is left of the vector (x, y)
abbrev pub Left : ℤ → ℤ → ℤ → ℤ → Type 0
Left x y x' y' = (y *ℤ x') <ℤ (x *ℤ y')

-- the vectors (a, p − p'), (m, q − q') and (c, r − r'), each left of the one before
upright_ℕ : (a p p' m q q' c r r' : ℕ) → p * m + a * q' < a * q + p' * m → q * c + m * r' < m * r + q' * c → 0 < m
upright_ℕ a p p' zero q q' c r r' h k =
    let l : q' < q = lt_of_mul-lt-mul_left a {m = q'} {n = q} (omega arith) in
    let g : c * q' ≤ c * q = mul-le-mul_left c (omega arith) in
    absurd (omega arith)
upright_ℕ a p p' (suc m) q q' c r r' h k = omega arith

onward_ℕ : (a p p' m q q' c r r' : ℕ) → 0 < a → p * m + a * q' < a * q + p' * m → q * c + m * r' < m * r + q' * c → p * c + a * r' < a * r + p' * c
onward_ℕ a p p' m q q' c r r' a₀ h k =
    let f : c * (p * m + a * q') ≤ c * (a * q + p' * m) = mul-le-mul_left c (omega arith) in
    let g : a * (q * c + m * r') < a * (m * r + q' * c) = mul-lt-mul_of_pos_left k a₀ in
    lt_of_mul-lt-mul_left m {m = p * c + a * r'} {n = a * r + p' * c} (omega arith)

-- a vector of the half plane 0 ≤ x
vector : (P : ℤ → ℤ → Type 0) → ((a p p' : ℕ) → P (a ⊖ 0) (p ⊖ p')) → (x y : ℤ) → pos 0 ≤ℤ x → P x y
vector P f x y = nonneg (λ x. P x y) (λ a. undiff (λ y. P (a ⊖ 0) y) (λ p p'. f a p p') y) x

module _ (x y : ℕ → ℤ) where
  abbrev Turns : ℕ → ℕ → Type 0
  Turns i j = Left (x i) (y i) (x j) (y j)

  upright : (i j k : ℕ) → pos 0 ≤ℤ x i → pos 0 ≤ℤ x j → pos 0 ≤ℤ x k → Turns i j → Turns j k → pos 0 <ℤ x j
  upright i j k x₀ x₁ x₂ =
      vector (λ u v. Left u v (x j) (y j) → Turns j k → pos 0 <ℤ x j) (λ a p p'.
      vector (λ u v. Left (a ⊖ 0) (p ⊖ p') u v → Left u v (x k) (y k) → pos 0 <ℤ u) (λ m q q'.
      vector (λ u v. Left (a ⊖ 0) (p ⊖ p') (m ⊖ 0) (q ⊖ q') → Left (m ⊖ 0) (q ⊖ q') u v → pos 0 <ℤ (m ⊖ 0)) (λ c r r'.
      simp diff (λ h l. ⊖-lt _ _ _ _ (omega (arith, upright_ℕ a p p' m q q' c r r' (omega (arith, lt-⊖ _ _ _ _ h)) (omega (arith, lt-⊖ _ _ _ _ l)))))) (x k) (y k) x₂) (x j) (y j) x₁) (x i) (y i) x₀

  onward : (i j k : ℕ) → pos 0 <ℤ x i → pos 0 ≤ℤ x i → pos 0 ≤ℤ x j → pos 0 ≤ℤ x k → Turns i j → Turns j k → Turns i k
  onward i j k x₊ x₀ x₁ x₂ =
      vector (λ u v. pos 0 <ℤ u → Left u v (x j) (y j) → Turns j k → Left u v (x k) (y k)) (λ a p p'.
      vector (λ u v. pos 0 <ℤ (a ⊖ 0) → Left (a ⊖ 0) (p ⊖ p') u v → Left u v (x k) (y k) → Left (a ⊖ 0) (p ⊖ p') (x k) (y k)) (λ m q q'.
      vector (λ u v. pos 0 <ℤ (a ⊖ 0) → Left (a ⊖ 0) (p ⊖ p') (m ⊖ 0) (q ⊖ q') → Left (m ⊖ 0) (q ⊖ q') u v → Left (a ⊖ 0) (p ⊖ p') u v) (λ c r r'.
      simp diff (λ g h l. ⊖-lt _ _ _ _ (omega (arith, onward_ℕ a p p' m q q' c r r' (omega (arith, lt-⊖ _ _ _ _ g)) (omega (arith, lt-⊖ _ _ _ _ h)) (omega (arith, lt-⊖ _ _ _ _ l)))))) (x k) (y k) x₂) (x j) (y j) x₁) (x i) (y i) x₀ x₊

  turns_asym : (i j : ℕ) → Turns i j → Turns j i → ⊥
  turns_asym i j =
      undiff (λ u. Left u (y i) (x j) (y j) → Left (x j) (y j) u (y i) → ⊥) (λ a a'.
      undiff (λ v. Left (a ⊖ a') v (x j) (y j) → Left (x j) (y j) (a ⊖ a') v → ⊥) (λ p p'.
      undiff (λ u. Left (a ⊖ a') (p ⊖ p') u (y j) → Left u (y j) (a ⊖ a') (p ⊖ p') → ⊥) (λ m m'.
      undiff (λ v. Left (a ⊖ a') (p ⊖ p') (m ⊖ m') v → Left (m ⊖ m') v (a ⊖ a') (p ⊖ p') → ⊥) (λ q q'.
      simp diff (λ h l. omega (arith, lt-⊖ _ _ _ _ h, lt-⊖ _ _ _ _ l))) (y j)) (x j)) (y i)) (x i)

  -- the walk 0, 1, .., l and back to 0
  pub around : (l : ℕ) → ((k : ℕ) → k ≤ l → pos 0 ≤ℤ x k) → ((k : ℕ) → k < l → Turns k (suc k)) → Turns l 0 → ⊥
  around zero f s c = turns_asym 0 0 c c
  around (suc l) f s c = turns_asym 0 (suc l) (go l (omega arith)) c
    where
      go : (j : ℕ) → j < suc l → Turns 0 (suc j)
      go zero h = s 0 (omega arith)
      go (suc j) h =
          onward 0 (suc j) (suc (suc j)) (upright (suc l) 0 1 (f (suc l) (omega arith)) (f 0 (omega arith)) (f 1 (omega arith)) c (s 0 (omega arith)))
          (f 0 (omega arith)) (f (suc j) (omega arith)) (f (suc (suc j)) (omega arith)) (go j (omega arith)) (s (suc j) (omega arith))
