-- A closed walk that turns right round a point at no step, and whose first three places turn left, does not stay on one side of a line beside the point.
use mathlib.Core.Path.{◌≡◌, subst}
use Prim.Native.Nat.{ℕ, zero, suc, ◌+◌, ◌*◌, ◌-◌, ◌<◌, ◌≤◌}
use native.Mathlib.Nat.{mul-le-mul_left, le_of_mul-le-mul_left}
use native.Mathlib.Omega.{arith}
use lib.IntN.{ℤ, pos, ◌+ℤ◌, ◌-ℤ◌, ◌*ℤ◌}
use lib.Signed.{◌≤ℤ◌, ◌<ℤ◌}
use Rattle.geometry.proofs.Signed.{◌⊖◌, diff, ring, undiff, positive, ⊖-le, lt-⊖, le-⊖}

-- the vector (x', y') is not right of the vector (x, y)
abbrev pub Ahead : ℤ → ℤ → ℤ → ℤ → Type 0
Ahead x y x' y' = (y *ℤ x') ≤ℤ (x *ℤ y')

-- the ends of the vectors (a, b), (c, d) and (e, f) turn left
abbrev pub Bend : ℤ → ℤ → ℤ → ℤ → ℤ → ℤ → Type 0
Bend a b c d e f = pos 0 <ℤ ((c -ℤ a) *ℤ (f -ℤ b) -ℤ (d -ℤ b) *ℤ (e -ℤ a))

-- a bend is the sum of the three turns between its vectors, so that none is left where each turns back
bend_is : (a b c d e f : ℤ) → (c -ℤ a) *ℤ (f -ℤ b) -ℤ (d -ℤ b) *ℤ (e -ℤ a) ≡ (d *ℤ a -ℤ c *ℤ b) +ℤ ((f *ℤ c -ℤ e *ℤ d) +ℤ ((b *ℤ e -ℤ a *ℤ f) +ℤ (a *ℤ b -ℤ a *ℤ b)))
bend_is a b c d e f = simp ring

sum_flat : (u u' v v' w w' m : ℤ) → u ≤ℤ u' → v ≤ℤ v' → w ≤ℤ w' → pos 0 <ℤ ((u -ℤ u') +ℤ ((v -ℤ v') +ℤ ((w -ℤ w') +ℤ (m -ℤ m)))) → ⊥
sum_flat =
    undiff _ (λ a a'. undiff _ (λ b b'. undiff _ (λ c c'. undiff _ (λ d d'. undiff _ (λ e e'. undiff _ (λ f f'. undiff _ (λ m m'.
    simp diff (λ h k l g. omega (arith, le-⊖ _ _ _ _ h, le-⊖ _ _ _ _ k, le-⊖ _ _ _ _ l, lt-⊖ _ _ _ _ g)))))))))

bend_flat : (a b c d e f : ℤ) → Ahead c d a b → Ahead e f c d → Ahead a b e f → Bend a b c d e f → ⊥
bend_flat a b c d e f h k l g = sum_flat (d *ℤ a) (c *ℤ b) (f *ℤ c) (e *ℤ d) (b *ℤ e) (a *ℤ f) (a *ℤ b) h k l (rw (bend_is a b c d e f) at g)

-- the vectors (a, p − p'), (m, q − q') and (c, r − r'): where m is above 0, what is ahead of the second is ahead of the first
onward_ℕ : (a p p' m q q' c r r' : ℕ) → 0 < m → p * m + a * q' ≤ a * q + p' * m → q * c + m * r' ≤ m * r + q' * c → p * c + a * r' ≤ a * r + p' * c
onward_ℕ a p p' m q q' c r r' m₀ h k =
    let f : c * (p * m + a * q') ≤ c * (a * q + p' * m) = mul-le-mul_left c h in
    let g : a * (q * c + m * r') ≤ a * (m * r + q' * c) = mul-le-mul_left a k in
    le_of_mul-le-mul_left {m = p * c + a * r'} {n = a * r + p' * c} {k = m} (omega arith) m₀

-- a vector of the half plane 0 < x
vector : (P : ℤ → ℤ → Type 0) → ((a p p' : ℕ) → P (suc a ⊖ 0) (p ⊖ p')) → (x y : ℤ) → pos 0 <ℤ x → P x y
vector P f x y = positive (λ x. P x y) (λ a. undiff (λ y. P (suc a ⊖ 0) y) (λ p p'. f a p p') y) x

onward : (a b c d e f : ℤ) → pos 0 <ℤ a → pos 0 <ℤ c → pos 0 <ℤ e → Ahead a b c d → Ahead c d e f → Ahead a b e f
onward a b c d e f x₀ x₁ x₂ =
    vector (λ a b. Ahead a b c d → Ahead c d e f → Ahead a b e f) (λ a p p'.
    vector (λ c d. Ahead (suc a ⊖ 0) (p ⊖ p') c d → Ahead c d e f → Ahead (suc a ⊖ 0) (p ⊖ p') e f) (λ m q q'.
    vector (λ e f. Ahead (suc a ⊖ 0) (p ⊖ p') (suc m ⊖ 0) (q ⊖ q') → Ahead (suc m ⊖ 0) (q ⊖ q') e f → Ahead (suc a ⊖ 0) (p ⊖ p') e f) (λ c r r'.
    simp diff (λ h k. ⊖-le _ _ _ _ (omega (arith, onward_ℕ (suc a) p p' (suc m) q q' (suc c) r r' (omega arith) (omega (arith, le-⊖ _ _ _ _ h)) (omega (arith, le-⊖ _ _ _ _ k)))))) e f x₂) c d x₁) a b x₀

-- the closed walk 0, 1, .., l and back to 0
module _ (x y : ℕ → ℤ) (l : ℕ) (two : 2 ≤ l) (f : (k : ℕ) → k ≤ l → pos 0 <ℤ x k) where
  abbrev Turns : ℕ → ℕ → Type 0
  Turns i j = Ahead (x i) (y i) (x j) (y j)

  further : (i j k : ℕ) → i ≤ l → j ≤ l → k ≤ l → Turns i j → Turns j k → Turns i k
  further i j k h₀ h₁ h₂ = onward (x i) (y i) (x j) (y j) (x k) (y k) (f i h₀) (f j h₁) (f k h₂)

  pub around : ((k : ℕ) → k < l → Turns k (suc k)) → Turns l 0 → Bend (x 0) (y 0) (x 1) (y 1) (x 2) (y 2) → ⊥
  around s c =
      bend_flat (x 0) (y 0) (x 1) (y 1) (x 2) (y 2)
      (home (l - 1) 1 (omega arith))
      (further 2 0 1 two (omega arith) (omega arith) (home (l - 2) 2 (omega arith)) (s 0 (omega arith)))
      (further 0 1 2 (omega arith) (omega arith) two (s 0 (omega arith)) (s 1 (omega arith)))
    where
      home : (d i : ℕ) → d + i ≡ l → Turns i 0
      home zero i e = let e' : l ≡ i = omega arith in subst (λ (j : ℕ). Turns j 0) e' c
      home (suc d) i e = further i (suc i) 0 (omega arith) (omega arith) (omega arith) (s i (omega arith)) (home d (suc i) (omega arith))
