-- The two kept sides while the test goes round a block: one side more, every side, and whether a point is left between them.
use mathlib.Core.Path.{◌≡◌, refl}
use mathlib.Core.Bool.{Bool, true, false, not}
use mathlib.Core.Logic.{◌⊎◌, inl, inr, ⊎_elim}
use mathlib.Core.List.{List}
use Prim.Native.Nat.{ℕ, ◌+◌, ◌<◌, ◌≤◌}
use native.Mathlib.Omega.{arith}
use borrow.Author.Count.{below_more}
use lib.IntN.{ℤ, pos, ◌*ℤ◌}
use lib.Signed.{◌≤ℤ◌, ◌<ℤ◌, le_z_yes, lt_z_yes, clash_ℤ}
use Rattle.geometry.specs.Words.{Point, word, corners}
use Rattle.geometry.specs.Obstruction.{side_turn}
use Rattle.geometry.specs.inner.Sides.{Within}
use Rattle.geometry.proofs.Signed.{below_or_not, lt_le}
use Rattle.seams.specs.inner.Reach.{On, Around, Touched, Both, Bounds, Ends, Kept, Narrower, Tightened, Common, Left}
use Rattle.seams.proofs.Closed.{tighter, tighter_up, on_both, on_neither, on_first, on_last, meet_only, meet_if}
use Rattle.lists.specs.inner.Tells.{Tells}
use Rattle.lists.proofs.Telling.{tells_yes, tells_no}

-- ---- the whole straight
one : Bounds (pos 1) (pos 1)
one = record { above = le_z_yes tt; apart = inr (lt_z_yes tt) }

pub whole_ends : Ends (pos 1) (pos 1) (pos 1) (pos 1)
whole_ends = record { low = one; up = one }

pub whole_both : (u s : ℕ) → Both (pos 1) (pos 1) (pos 1) (pos 1) u s
whole_both u s = let h = on_both u s (pos 1) (pos 1) (le_z_yes tt) (le_z_yes tt) in record { low = h; up = h }

-- ---- one side more
module _ (l r p q x y : ℤ) (e : Ends l r p q) where
  keep : ((u s : ℕ) → Both l r p q u s → On u s x y) → Narrower l r p q x y l r p q
  keep f = record { ends = e; all = λ u s b. (b, f u s b); only = λ u s b o. b }

  pub side_both : pos 0 ≤ℤ x → pos 0 ≤ℤ y → Narrower l r p q x y l r p q
  side_both x₀ y₀ = keep (λ u s b. on_both u s x y x₀ y₀)

  pub side_low_keep : pos 0 ≤ℤ y → (l *ℤ y) ≤ℤ (x *ℤ r) → Narrower l r p q x y l r p q
  side_low_keep y₀ t = keep (λ u s b. tighter u s l r x y e.low y₀ t b.low)

  pub side_up_keep : pos 0 ≤ℤ x → (q *ℤ x) ≤ℤ (y *ℤ p) → Narrower l r p q x y l r p q
  side_up_keep x₀ t = keep (λ u s b. tighter_up u s p q x y e.up x₀ t b.up)

  pub side_low : x <ℤ pos 0 → pos 0 ≤ℤ y → (x *ℤ r) <ℤ (l *ℤ y) → Narrower l r p q x y x y p q
  side_low x₀ y₀ t =
      let b : Bounds x y = record { above = y₀; apart = inl x₀ } in
      record {
        ends = record { low = b; up = e.up };
        all = λ u s o. (record { low = tighter u s x y l r b e.low.above (lt_le t) o.low; up = o.up }, o.low);
        only = λ u s o n. record { low = n; up = o.up };
      }

  pub side_up : pos 0 ≤ℤ x → y <ℤ pos 0 → (y *ℤ p) <ℤ (q *ℤ x) → Narrower l r p q x y l r x y
  side_up x₀ y₀ t =
      let b : Bounds y x = record { above = x₀; apart = inl y₀ } in
      record {
        ends = record { low = e.low; up = b };
        all = λ u s o. (record { low = o.low; up = tighter_up u s x y p q b e.up.above (lt_le t) o.up }, o.up);
        only = λ u s o n. record { low = o.low; up = n };
      }

-- the same with the sizes that the code asks
module _ (l r p q x y : ℤ) (k : Kept l r p q) (wx : Within 2200000000 x) (wy : Within 2200000000 y) where
  pub step_both : pos 0 ≤ℤ x → pos 0 ≤ℤ y → Tightened l r p q x y l r p q
  step_both x₀ y₀ = record { small = k.small; side = side_both l r p q x y k.ends x₀ y₀ }

  pub step_low : x <ℤ pos 0 → pos 0 ≤ℤ y → (x *ℤ r) <ℤ (l *ℤ y) → Tightened l r p q x y x y p q
  step_low x₀ y₀ t =
      record {
        small = record { small_l = wx; small_r = wy; small_p = k.small.small_p; small_q = k.small.small_q };
        side = side_low l r p q x y k.ends x₀ y₀ t;
      }

  pub step_low_keep : pos 0 ≤ℤ y → (l *ℤ y) ≤ℤ (x *ℤ r) → Tightened l r p q x y l r p q
  step_low_keep y₀ t = record { small = k.small; side = side_low_keep l r p q x y k.ends y₀ t }

  pub step_up : pos 0 ≤ℤ x → y <ℤ pos 0 → (y *ℤ p) <ℤ (q *ℤ x) → Tightened l r p q x y l r x y
  step_up x₀ y₀ t =
      record {
        small = record { small_l = k.small.small_l; small_r = k.small.small_r; small_p = wx; small_q = wy };
        side = side_up l r p q x y k.ends x₀ y₀ t;
      }

  pub step_up_keep : pos 0 ≤ℤ x → (q *ℤ x) ≤ℤ (y *ℤ p) → Tightened l r p q x y l r p q
  step_up_keep x₀ t = record { small = k.small; side = side_up_keep l r p q x y k.ends x₀ t }

-- ---- whether a point is left between them
module _ (l r p q : ℤ) (e : Ends l r p q) where
  pub common_first : pos 0 ≤ℤ l → Common l r p q
  unfolding Common
  common_first l₀ = (1, 0, omega arith, record { low = on_first l r l₀; up = on_first p q e.up.above })

  pub common_last : pos 0 ≤ℤ q → Common l r p q
  unfolding Common
  common_last q₀ = (0, 1, omega arith, record { low = on_last l r e.low.above; up = on_last p q q₀ })

  pub common_if : l <ℤ pos 0 → (l *ℤ q) ≤ℤ (p *ℤ r) → Common l r p q
  common_if l₀ t = meet_if l r p q l₀ e.low.above e.up.above t

  pub common_not : l <ℤ pos 0 → q <ℤ pos 0 → (p *ℤ r) <ℤ (l *ℤ q) → (u s : ℕ) → 1 ≤ u + s → Both l r p q u s → ⊥
  common_not l₀ q₀ t u s w b = clash_ℤ t (meet_only u s l r p q w l₀ q₀ e.low.above e.up.above b.low b.up)

  -- by the test of the code
  pub common_tells : (t : Bool) → l <ℤ pos 0 → q <ℤ pos 0 → (t ≡ true → (p *ℤ r) <ℤ (l *ℤ q)) → (t ≡ false → (l *ℤ q) ≤ℤ (p *ℤ r)) → Tells (Common l r p q) (not t)
  unfolding Common
  common_tells true l₀ q₀ f g = tells_no (λ c. common_not l₀ q₀ (f refl) c.0 c.1 c.2 c.3)
  common_tells false l₀ q₀ f g = tells_yes (common_if l₀ (g refl))

-- a side that not both ends are behind
pub not_behind : (x y : ℤ) → ((x <ℤ pos 0) × (y <ℤ pos 0) → ⊥) → (pos 0 ≤ℤ x) ⊎ (pos 0 ≤ℤ y)
not_behind x y f = ⊎_elim (λ h. ⊎_elim (λ k. absurd (f (h, k))) (λ k. inr k) (below_or_not y (pos 0))) (λ h. inl h) (below_or_not x (pos 0))

-- ---- going round a block
module _ (ws : List ℕ) (a b : Point) (l r p q : ℤ) where
  -- k sides are passed
  pub record Going (l' r' p' q' : ℤ) (k : ℕ) : Type 0 where
    pub kept : Kept l' r' p' q'
    pub all : (u s : ℕ) → Both l' r' p' q' u s → Both l r p q u s × Around k (side_turn (corners ws) a) (side_turn (corners ws) b) u s
    pub only : (u s : ℕ) → Both l r p q u s → Around k (side_turn (corners ws) a) (side_turn (corners ws) b) u s → Both l' r' p' q' u s

  pub going_none : Kept l r p q → Going l r p q 0
  going_none h =
      record { kept = h; all = λ u s o. (o, λ k m. absurd (none k m)); only = λ u s o i. o }
    where
      none : (k : ℕ) → k < 0 → ⊥
      none k h = omega arith

  pub going_next : {k : ℕ} {l' r' p' q' x y l'' r'' p'' q'' : ℤ} → Going l' r' p' q' k
      → side_turn (corners ws) a k ≡ x → side_turn (corners ws) b k ≡ y → Tightened l' r' p' q' x y l'' r'' p'' q'' → Going l'' r'' p'' q'' (k + 1)
  going_next {k} {x} {y} g ex ey m =
      record {
        kept = record { small = m.small; ends = m.side.ends };
        all = λ u s o.
            let n = m.side.all u s o in
            let i = g.all u s n.0 in
            (i.0, below_more (λ (j : ℕ). On u s (side_turn (corners ws) a j) (side_turn (corners ws) b j)) k i.1 (rw (ex, ey) n.1));
        only = λ u s o i. m.side.only u s (g.only u s o (λ j n. i j (omega arith))) (rw (ex, ey) at (i k (omega arith)));
      }

  -- every side is passed
  module _ {k : ℕ} {l' r' p' q' : ℤ} (g : Going l' r' p' q' k) (e : k ≡ word ws 0) where
    pub going_left : 0 < word ws 0 → Common l' r' p' q' → Left ws a b l r p q l' r' p' q'
    going_left o c =
        record {
          kept = g.kept;
          some = c;
          all = λ u s w n. let i = g.all u s n in (i.0, record { stands = o; around = λ j z. i.1 j (omega arith) });
          only = λ u s w n i. g.only u s n (λ j z. i.around j (omega arith));
        }

    pub going_gone : (Common l' r' p' q' → ⊥) → (u s : ℕ) → 1 ≤ u + s → Both l r p q u s → Touched ws a b u s → ⊥
    unfolding Common
    going_gone f u s w n i = f (u, s, w, g.only u s n (λ j z. i.around j (omega arith)))

-- the block is not reached
pub unreached_behind : (ws : List ℕ) (a b : Point) {k u s : ℕ} {x y : ℤ} → k < word ws 0 → side_turn (corners ws) a k ≡ x → side_turn (corners ws) b k ≡ y
    → (x <ℤ pos 0) × (y <ℤ pos 0) → 1 ≤ u + s → Touched ws a b u s → ⊥
unreached_behind ws a b {k} {u} {s} n ex ey z w i =
    on_neither u s (side_turn (corners ws) a k) (side_turn (corners ws) b k) w (rw ex z.0) (rw ey z.1) (i.around k n)
