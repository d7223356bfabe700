-- A block of m sides: the tightest two of those passed, and when a point of the straight is left of all.
use mathlib.Core.Path.{◌≡◌, refl}
use mathlib.Core.Logic.{◌↔◌, ◌⊎◌, inl, inr, ⊎_elim}
use Prim.Native.Nat.{ℕ, zero, suc, ◌+◌, ◌<◌, ◌≤◌}
use native.Mathlib.Omega.{arith}
use native.Mathlib.Nat.{eq-or-lt_of_le}
use lib.IntN.{ℤ, pos, ◌*ℤ◌}
use lib.Signed.{◌≤ℤ◌, ◌<ℤ◌, lt_z_yes}
use Rattle.geometry.specs.inner.Sides.{In, Inside, Enters, Span, Meets}
use Rattle.geometry.proofs.Signed.{below_or_not, lt_le}
use Rattle.geometry.proofs.Weights.{enters_of, of_enters, tighter, tighter_up, in_both, in_neither, meet_first, meet_last, meet_only, meet_if}

one_pos : pos 0 <ℤ pos 1
one_pos = lt_z_yes tt

pub span_none : (x y : ℕ → ℤ) → Span 0 x y (pos 1) (pos 1) (pos 1) (pos 1)
span_none x y =
    record {
      low = one_pos;
      up = one_pos;
      all = λ u s h a b k l. absurd (none k l);
      only = λ u s h i. (in_both u s (pos 1) (pos 1) h one_pos one_pos, in_both u s (pos 1) (pos 1) h one_pos one_pos);
    }
  where
    none : (k : ℕ) → k < 0 → ⊥
    none k h = omega arith

module _ (m : ℕ) (x y : ℕ → ℤ) (u s : ℕ) where
  pub inside_less : Inside (suc m) x y u s → Inside m x y u s
  inside_less i k l = i k (omega arith)

  pub inside_more : Inside m x y u s → In u s (x m) (y m) → Inside (suc m) x y u s
  inside_more i j k l = ⊎_elim (λ (e : k ≡ m). rw e j) (λ h. i k h) (split k m l)
    where
      split : (k m : ℕ) → k < suc m → (k ≡ m) ⊎ (k < m)
      split k m l = eq-or-lt_of_le (omega arith)

module _ (m : ℕ) (x y : ℕ → ℤ) {l r p q : ℤ} (h : Span m x y l r p q) where
  -- a side that asks nothing more
  keep : ((u s : ℕ) → 1 ≤ u + s → In u s l r → In u s p q → In u s (x m) (y m)) → Span (suc m) x y l r p q
  keep f =
      record {
        low = h.low;
        up = h.up;
        all = λ u s w a b. inside_more m x y u s (h.all u s w a b) (f u s w a b);
        only = λ u s w i. h.only u s w (inside_less m x y u s i);
      }

  pub span_both : pos 0 <ℤ x m → pos 0 <ℤ y m → Span (suc m) x y l r p q
  span_both x₀ y₀ = keep (λ u s w a b. in_both u s (x m) (y m) w x₀ y₀)

  pub span_low_keep : pos 0 <ℤ y m → (l *ℤ y m) ≤ℤ (x m *ℤ r) → Span (suc m) x y l r p q
  span_low_keep y₀ t = keep (λ u s w a b. tighter u s l r (x m) (y m) h.low y₀ t a)

  pub span_up_keep : pos 0 <ℤ x m → (q *ℤ x m) ≤ℤ (y m *ℤ p) → Span (suc m) x y l r p q
  span_up_keep x₀ t = keep (λ u s w a b. tighter_up u s p q (x m) (y m) h.up x₀ t b)

  -- a side that is tighter
  pub span_low : pos 0 <ℤ y m → (x m *ℤ r) ≤ℤ (l *ℤ y m) → Span (suc m) x y (x m) (y m) p q
  span_low y₀ t =
      record {
        low = y₀;
        up = h.up;
        all = λ u s w a b. inside_more m x y u s (h.all u s w (tighter u s (x m) (y m) l r y₀ h.low t a) b) a;
        only = λ u s w i. (i m (omega arith), (h.only u s w (inside_less m x y u s i)).1);
      }

  pub span_up : pos 0 <ℤ x m → (y m *ℤ p) ≤ℤ (q *ℤ x m) → Span (suc m) x y l r (x m) (y m)
  span_up x₀ t =
      record {
        low = h.low;
        up = x₀;
        all = λ u s w a b. inside_more m x y u s (h.all u s w a (tighter_up u s (x m) (y m) p q x₀ h.up t b)) b;
        only = λ u s w i. ((h.only u s w (inside_less m x y u s i)).0, i m (omega arith));
      }

  -- ---- what the two say at the end
  pub meets_enters : Meets l r p q → Enters m x y
  unfolding Meets
  meets_enters e = enters_of m x y e.0 e.1 e.2 (h.all e.0 e.1 e.2 e.3 e.4)

  pub enters_meets : Enters m x y → Meets l r p q
  unfolding Meets
  enters_meets k =
      let e = of_enters m x y k in
      let b = h.only e.0 e.1 e.2 e.3 in
      (e.0, e.1, e.2, b.0, b.1)

pub not_entered : (m : ℕ) (x y : ℕ → ℤ) (k : ℕ) → k < m → x k ≤ℤ pos 0 → y k ≤ℤ pos 0 → Enters m x y → ⊥
not_entered m x y k l x₀ y₀ h =
    let e = of_enters m x y h in
    in_neither e.0 e.1 (x k) (y k) x₀ y₀ (e.3 k l)

-- ---- the law that decides by the signs of the turns: no side has both ends on its wrong side, and each two sides leave room between them

pub record Crossed (m : ℕ) (x y : ℕ → ℤ) : Type 0 where
  pub each : (k : ℕ) → k < m → x k ≤ℤ pos 0 → y k ≤ℤ pos 0 → ⊥
  pub pairs : (i j : ℕ) → i < m → j < m → x i ≤ℤ pos 0 → y j ≤ℤ pos 0 → (x i *ℤ y j) <ℤ (x j *ℤ y i)

-- the tightest two are sides of the block, where there are any
pub record Best (m : ℕ) (x y : ℕ → ℤ) : Type 0 where
  pub l : ℤ
  pub r : ℤ
  pub p : ℤ
  pub q : ℤ
  pub span : Span m x y l r p q
  pub from_low : (pos 0 <ℤ l) ⊎ ((i : ℕ) × (i < m) × (l ≡ x i) × (r ≡ y i) × (x i ≤ℤ pos 0))
  pub from_up : (pos 0 <ℤ q) ⊎ ((j : ℕ) × (j < m) × (p ≡ x j) × (q ≡ y j) × (y j ≤ℤ pos 0))

module _ (m : ℕ) (x y : ℕ → ℤ) (b : Best m x y) where
  more_low : (pos 0 <ℤ b.l) ⊎ ((i : ℕ) × (i < suc m) × (b.l ≡ x i) × (b.r ≡ y i) × (x i ≤ℤ pos 0))
  more_low = ⊎_elim (λ h. inl h) (λ h. inr (h.0, omega (arith, h.1), h.2, h.3, h.4)) b.from_low

  more_up : (pos 0 <ℤ b.q) ⊎ ((j : ℕ) × (j < suc m) × (b.p ≡ x j) × (b.q ≡ y j) × (y j ≤ℤ pos 0))
  more_up = ⊎_elim (λ h. inl h) (λ h. inr (h.0, omega (arith, h.1), h.2, h.3, h.4)) b.from_up

  kept : Span (suc m) x y b.l b.r b.p b.q → Best (suc m) x y
  kept s = record { l = b.l; r = b.r; p = b.p; q = b.q; span = s; from_low = more_low; from_up = more_up }

  step : (x m ≤ℤ pos 0 → y m ≤ℤ pos 0 → ⊥) → Best (suc m) x y
  step h =
      ⊎_elim
      (λ (x₀ : pos 0 <ℤ x m). ⊎_elim
      (λ (y₀ : pos 0 <ℤ y m). kept (span_both m x y b.span x₀ y₀))
      (λ (y₁ : y m ≤ℤ pos 0). ⊎_elim
      (λ t. record { l = b.l; r = b.r; p = x m; q = y m; span = span_up m x y b.span x₀ (lt_le t); from_low = more_low; from_up = inr (m, omega arith, refl, refl, y₁) })
      (λ t. kept (span_up_keep m x y b.span x₀ t))
      (below_or_not (y m *ℤ b.p) (b.q *ℤ x m)))
      (below_or_not (pos 0) (y m)))
      (λ (x₁ : x m ≤ℤ pos 0). ⊎_elim
      (λ (y₀ : pos 0 <ℤ y m). ⊎_elim
      (λ t. record { l = x m; r = y m; p = b.p; q = b.q; span = span_low m x y b.span y₀ (lt_le t); from_low = inr (m, omega arith, refl, refl, x₁); from_up = more_up })
      (λ t. kept (span_low_keep m x y b.span y₀ t))
      (below_or_not (x m *ℤ b.r) (b.l *ℤ y m)))
      (λ (y₁ : y m ≤ℤ pos 0). absurd (h x₁ y₁))
      (below_or_not (pos 0) (y m)))
      (below_or_not (pos 0) (x m))

pub best : (m : ℕ) (x y : ℕ → ℤ) → ((k : ℕ) → k < m → x k ≤ℤ pos 0 → y k ≤ℤ pos 0 → ⊥) → Best m x y
best zero x y h =
    record { l = pos 1; r = pos 1; p = pos 1; q = pos 1; span = span_none x y; from_low = inl one_pos; from_up = inl one_pos }
best (suc m) x y h = step m x y (best m x y (λ k l. h k (omega arith))) (h m (omega arith))

pub crossed_enters : (m : ℕ) (x y : ℕ → ℤ) → Crossed m x y → Enters m x y
crossed_enters m x y c =
    let b = best m x y c.each in
    meets_enters m x y b.span
    (⊎_elim (λ l₀. meet_first b.l b.r b.p b.q l₀ b.span.up)
    (λ i. ⊎_elim (λ q₀. meet_last b.l b.r b.p b.q b.span.low q₀)
    (λ j. meet_if b.l b.r b.p b.q (rw i.2 i.4) (rw j.3 j.4) b.span.low b.span.up (rw (i.2, i.3, j.2, j.3) (c.pairs i.0 j.0 i.1 j.1 i.4 j.4)))
    b.from_up)
    b.from_low)

pub enters_crossed : (m : ℕ) (x y : ℕ → ℤ) → Enters m x y → Crossed m x y
enters_crossed m x y h =
    record {
      each = λ k l x₀ y₀. not_entered m x y k l x₀ y₀ h;
      pairs = λ i j k l x₀ y₀.
          let e = of_enters m x y h in
          meet_only e.0 e.1 (x i) (y i) (x j) (y j) x₀ y₀ (other_up i k x₀) (other_low j l y₀) (e.3 i k) (e.3 j l);
    }
  where
    other_up : (i : ℕ) → i < m → x i ≤ℤ pos 0 → pos 0 <ℤ y i
    other_up i k x₀ = ⊎_elim (λ t. t) (λ t. absurd (not_entered m x y i k x₀ t h)) (below_or_not (pos 0) (y i))

    other_low : (j : ℕ) → j < m → y j ≤ℤ pos 0 → pos 0 <ℤ x j
    other_low j l y₀ = ⊎_elim (λ t. t) (λ t. absurd (not_entered m x y j l t y₀ h)) (below_or_not (pos 0) (x j))

pub enters_iff : (m : ℕ) (x y : ℕ → ℤ) → Enters m x y ↔ Crossed m x y
enters_iff m x y = (enters_crossed m x y, crossed_enters m x y)
