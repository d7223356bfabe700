-- Integers as differences of naturals. `a ⊖ b` is a − b, shut, so that `simp diff` brings a sum, a product or a negation of differences to one difference, and an equation or an order of two differences is one of naturals, which `omega` reads.
use mathlib.Core.Path.{◌≡◌, refl, sym, ◌∙◌, ap, subst}
use mathlib.Core.Logic.{◌⊎◌, inl, inr}
use mathlib.Core.Bool.{Bool, true, false, not, cond}
use Prim.Native.Nat.{ℕ, zero, suc, ◌+◌, ◌*◌, ◌-◌, ◌<◌, ◌≤◌}
use native.Mathlib.Omega.{arith}
use lib.Dec.{T, ltb, ltb→lt, nltb→le, lt→ltb, leb→le, le→leb}
use lib.IntN.{ℤ, pos, negsuc, neg_ℤ, ◌+ℤ◌, ◌*ℤ◌, sub_ℕ, *ℤ_comm, +ℤ_comm, +ℤ_assoc, neg_ℤ-+ℤ, neg_ℤ-neg_ℤ}
use lib.Signed.{◌≤ℤ◌, ◌<ℤ◌, lt_z, lt_z_yes, lt_z_no}

infix 50 ◌⊖◌
unfoldable pub ◌⊖◌ : ℕ → ℕ → ℤ
a ⊖ b = sub_ℕ a b

-- what a difference is: a number k where a = k + b, and −(k + 1) where b = a + (k + 1)
cond_ind : (c : Bool) (x y : ℤ) (P : ℤ → Type 0) → (T c → P x) → (T (not c) → P y) → P (cond c x y)
cond_ind true x y P f g = f tt
cond_ind false x y P f g = g tt

pub ⊖-ind : (P : ℤ → Type 0) (a b : ℕ) → ((k : ℕ) → a ≡ k + b → P (pos k)) → ((k : ℕ) → b ≡ a + suc k → P (negsuc k)) → P (a ⊖ b)
unfolding ◌⊖◌
⊖-ind P a b f g =
    cond_ind (ltb a b) (negsuc (b - suc a)) (pos (a - b)) P
    (λ t. let h = ltb→lt a b t in g (b - suc a) (omega arith))
    (λ t. let h = nltb→le a b t in f (a - b) (omega arith))

pub pos-⊖ : (k x y : ℕ) → x ≡ k + y → pos k ≡ x ⊖ y
pos-⊖ k x y e = ⊖-ind (λ z. pos k ≡ z) x y (λ l h. ap pos (omega arith)) (λ l h. absurd (omega arith))

pub negsuc-⊖ : (k x y : ℕ) → y ≡ x + suc k → negsuc k ≡ x ⊖ y
negsuc-⊖ k x y e = ⊖-ind (λ z. negsuc k ≡ z) x y (λ l h. absurd (omega arith)) (λ l h. ap negsuc (omega arith))

-- every integer is a difference
pub undiff : (P : ℤ → Type 0) → ((a b : ℕ) → P (a ⊖ b)) → (z : ℤ) → P z
undiff P f (pos n) = subst P (sym (pos-⊖ n n 0 (omega arith))) (f n 0)
undiff P f (negsuc n) = subst P (sym (negsuc-⊖ n 0 (suc n) (omega arith))) (f 0 (suc n))

-- ---- equality and order
pub ⊖-eq : (a b c d : ℕ) → a + d ≡ c + b → a ⊖ b ≡ c ⊖ d
⊖-eq a b c d e = ⊖-ind (λ z. z ≡ c ⊖ d) a b (λ k h. pos-⊖ k _ _ (omega arith)) (λ k h. negsuc-⊖ k _ _ (omega arith))

pub posn : (n : ℕ) → pos n ≡ n ⊖ 0
posn n = pos-⊖ n _ _ (omega arith)

-- ---- operations
pub neg-⊖ : (a b : ℕ) → neg_ℤ (a ⊖ b) ≡ b ⊖ a
neg-⊖ a b = ⊖-ind (λ z. neg_ℤ z ≡ b ⊖ a) a b (λ k h. of_pos k h) (λ k h. pos-⊖ (suc k) _ _ (omega arith))
  where
    of_pos : (k : ℕ) → a ≡ k + b → neg_ℤ (pos k) ≡ b ⊖ a
    of_pos zero h = pos-⊖ 0 _ _ (omega arith)
    of_pos (suc k) h = negsuc-⊖ k _ _ (omega arith)

pub sub_is : (a b : ℕ) → sub_ℕ a b ≡ a ⊖ b
unfolding ◌⊖◌
sub_is a b = refl

pub +-⊖ : (a b c d : ℕ) → (a ⊖ b) +ℤ (c ⊖ d) ≡ (a + c) ⊖ (b + d)
+-⊖ a b c d =
    ⊖-ind (λ z. z +ℤ (c ⊖ d) ≡ (a + c) ⊖ (b + d)) a b
    (λ k h. ⊖-ind (λ z. pos k +ℤ z ≡ (a + c) ⊖ (b + d)) c d
    (λ l i. pos-⊖ (k + l) _ _ (omega arith))
    (λ l i. sub_is k (suc l) ∙ ⊖-eq _ _ _ _ (omega arith)))
    (λ k h. ⊖-ind (λ z. negsuc k +ℤ z ≡ (a + c) ⊖ (b + d)) c d
    (λ l i. sub_is l (suc k) ∙ ⊖-eq _ _ _ _ (omega arith))
    (λ l i. negsuc-⊖ (suc (k + l)) _ _ (omega arith)))

pub *-⊖ : (a b c d : ℕ) → (a ⊖ b) *ℤ (c ⊖ d) ≡ (a * c + b * d) ⊖ (a * d + b * c)
*-⊖ a b c d =
    ⊖-ind (λ z. z *ℤ (c ⊖ d) ≡ (a * c + b * d) ⊖ (a * d + b * c)) a b
    (λ k h. ⊖-ind (λ z. pos k *ℤ z ≡ (a * c + b * d) ⊖ (a * d + b * c)) c d
    (λ l i. pos-⊖ (k * l) _ _ (simp (h, i) (omega arith)))
    (λ l i. ap neg_ℤ (posn (k * suc l)) ∙ neg-⊖ _ _ ∙ ⊖-eq _ _ _ _ (simp (h, i) (omega arith))))
    (λ k h. ⊖-ind (λ z. negsuc k *ℤ z ≡ (a * c + b * d) ⊖ (a * d + b * c)) c d
    (λ l i. ap neg_ℤ (posn (suc k * l)) ∙ neg-⊖ _ _ ∙ ⊖-eq _ _ _ _ (simp (h, i) (omega arith)))
    (λ l i. pos-⊖ (suc k * suc l) _ _ (simp (h, i) (omega arith))))

-- ---- order
module _ (a b c d : ℕ) where
  pub ⊖-le : a + d ≤ c + b → (a ⊖ b) ≤ℤ (c ⊖ d)
  ⊖-le e =
      ⊖-ind (λ z. z ≤ℤ (c ⊖ d)) a b
      (λ k h. ⊖-ind (λ z. pos k ≤ℤ z) c d (λ l i. record { le = le→leb k l (omega arith) }) (λ l i. absurd (omega arith)))
      (λ k h. ⊖-ind (λ z. negsuc k ≤ℤ z) c d (λ l i. record { le = tt }) (λ l i. record { le = le→leb l k (omega arith) }))

  pub le-⊖ : (a ⊖ b) ≤ℤ (c ⊖ d) → a + d ≤ c + b
  le-⊖ =
      ⊖-ind (λ z. z ≤ℤ (c ⊖ d) → a + d ≤ c + b) a b
      (λ k h. ⊖-ind (λ z. pos k ≤ℤ z → a + d ≤ c + b) c d (λ l i t. omega (arith, leb→le k l t.le)) (λ l i t. absurd t.le))
      (λ k h. ⊖-ind (λ z. negsuc k ≤ℤ z → a + d ≤ c + b) c d (λ l i t. omega arith) (λ l i t. omega (arith, leb→le l k t.le)))

  pub ⊖-lt : a + d < c + b → (a ⊖ b) <ℤ (c ⊖ d)
  ⊖-lt e =
      ⊖-ind (λ z. z <ℤ (c ⊖ d)) a b
      (λ k h. ⊖-ind (λ z. pos k <ℤ z) c d (λ l i. record { lt = lt→ltb k l (omega arith) }) (λ l i. absurd (omega arith)))
      (λ k h. ⊖-ind (λ z. negsuc k <ℤ z) c d (λ l i. record { lt = tt }) (λ l i. record { lt = lt→ltb l k (omega arith) }))

  pub lt-⊖ : (a ⊖ b) <ℤ (c ⊖ d) → a + d < c + b
  lt-⊖ =
      ⊖-ind (λ z. z <ℤ (c ⊖ d) → a + d < c + b) a b
      (λ k h. ⊖-ind (λ z. pos k <ℤ z → a + d < c + b) c d (λ l i t. omega (arith, ltb→lt k l t.lt)) (λ l i t. absurd t.lt))
      (λ k h. ⊖-ind (λ z. negsuc k <ℤ z → a + d < c + b) c d (λ l i t. omega arith) (λ l i t. omega (arith, ltb→lt l k t.lt)))

pub neg_pos : (n : ℕ) → neg_ℤ (pos n) ≡ 0 ⊖ n
neg_pos n = ap neg_ℤ (posn n) ∙ neg-⊖ n 0

-- `posn` goes last: `neg_ℤ (pos n)` waits on n, and `simp` does not look inside it
pub ruleset diff = (+-⊖, *-⊖, neg-⊖, neg_pos, posn)

-- ---- the laws that `lib.IntN` lacks
pub *-distr : (x y z : ℤ) → x *ℤ (y +ℤ z) ≡ x *ℤ y +ℤ x *ℤ z
*-distr =
    undiff _ (λ a a'. undiff _ (λ b b'. undiff _ (λ c c'. simp diff (⊖-eq _ _ _ _ (omega arith)))))

pub *-assoc : (x y z : ℤ) → x *ℤ y *ℤ z ≡ x *ℤ (y *ℤ z)
*-assoc = undiff _ (λ a a'. undiff _ (λ b b'. undiff _ (λ c c'. simp diff (⊖-eq _ _ _ _ (omega arith)))))

-- ---- by sign
pub nonpos : (P : ℤ → Type 0) → ((a : ℕ) → P (0 ⊖ a)) → (z : ℤ) → z ≤ℤ pos 0 → P z
nonpos P f (pos zero) h = subst P (sym (posn 0)) (f 0)
nonpos P f (pos (suc n)) h = absurd (no_le n (leb→le (suc n) 0 h.le))
  where
    no_le : (n : ℕ) → suc n ≤ 0 → ⊥
    no_le n h = omega arith
nonpos P f (negsuc n) h = subst P (sym (negsuc-⊖ n 0 (suc n) (omega arith))) (f (suc n))

pub positive : (P : ℤ → Type 0) → ((a : ℕ) → P (suc a ⊖ 0)) → (z : ℤ) → pos 0 <ℤ z → P z
positive P f (pos zero) h = absurd (no_lt (ltb→lt 0 0 h.lt))
  where
    no_lt : 0 < 0 → ⊥
    no_lt h = omega arith
positive P f (pos (suc n)) h = subst P (sym (posn (suc n))) (f n)
positive P f (negsuc n) h = absurd h.lt

pub nonneg : (P : ℤ → Type 0) → ((a : ℕ) → P (a ⊖ 0)) → (z : ℤ) → pos 0 ≤ℤ z → P z
nonneg P f (pos n) h = subst P (sym (posn n)) (f n)
nonneg P f (negsuc n) h = absurd h.le

pub below_or_not : (a b : ℤ) → (a <ℤ b) ⊎ (b ≤ℤ a)
below_or_not a b = go (lt_z a b) (λ t. t) (λ t. t)
  where
    go : (t : Bool) → (T t → T (lt_z a b)) → (T (not t) → T (not (lt_z a b))) → (a <ℤ b) ⊎ (b ≤ℤ a)
    go true f g = inl (lt_z_yes (f tt))
    go false f g = inr (lt_z_no (g tt))

pub lt_le : {a b : ℤ} → a <ℤ b → a ≤ℤ b
lt_le {a} {b} = undiff (λ a. a <ℤ b → a ≤ℤ b) (λ p q. undiff (λ b. (p ⊖ q) <ℤ b → (p ⊖ q) ≤ℤ b) (λ r s h. ⊖-le _ _ _ _ (omega (arith, lt-⊖ _ _ _ _ h))) b) a

-- ---- for `simp ring`: products multiplied out and sorted, with no cancelling
pub *-distl : (x y z : ℤ) → (x +ℤ y) *ℤ z ≡ x *ℤ z +ℤ y *ℤ z
*-distl = undiff _ (λ a a'. undiff _ (λ b b'. undiff _ (λ c c'. simp diff (⊖-eq _ _ _ _ (omega arith)))))

pub *-left-comm : (x y z : ℤ) → x *ℤ (y *ℤ z) ≡ y *ℤ (x *ℤ z)
*-left-comm x y z = sym (*-assoc x y z) ∙ ap (λ w. w *ℤ z) (*ℤ_comm x y) ∙ *-assoc y x z

pub +-left-comm : (x y z : ℤ) → x +ℤ (y +ℤ z) ≡ y +ℤ (x +ℤ z)
+-left-comm x y z = sym (+ℤ_assoc x y z) ∙ ap (λ w. w +ℤ z) (+ℤ_comm x y) ∙ +ℤ_assoc y x z

pub *-neg : (x y : ℤ) → x *ℤ neg_ℤ y ≡ neg_ℤ (x *ℤ y)
*-neg = undiff _ (λ a a'. undiff _ (λ b b'. simp diff (⊖-eq _ _ _ _ (omega arith))))

pub neg-* : (x y : ℤ) → neg_ℤ x *ℤ y ≡ neg_ℤ (x *ℤ y)
neg-* = undiff _ (λ a a'. undiff _ (λ b b'. simp diff (⊖-eq _ _ _ _ (omega arith))))

pub ruleset ring = (*-distr, *-distl, *-assoc, *ℤ_comm, *-left-comm, *-neg, neg-*, neg_ℤ-+ℤ, neg_ℤ-neg_ℤ, +ℤ_assoc, +ℤ_comm, +-left-comm)
