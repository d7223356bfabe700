-- A segment that crosses a diagonal of a convex polygon away from its ends goes through the polygon's inside: the place
-- where the two meet is weighed from the ends of either, and the corners of a diagonal are never both on one side's line.
use mathlib.Core.Path.{◌≡◌, sym, ap, ◌∙◌, subst}
use mathlib.Core.Logic.{◌⊎◌, inl, inr}
use mathlib.Core.List.{List}
use mathlib.Core.Bool.{true}
use Prim.Native.Nat.{ℕ, suc, ◌<◌, ◌≤◌}
use native.Mathlib.Decide.{ℕ_discrete}
use native.Mathlib.Omega.{arith}
use lib.IntN.{ℤ, pos, neg_ℤ, ◌+ℤ◌, ◌-ℤ◌, ◌*ℤ◌, neg_ℤ-neg_ℤ, +ℤ_comm}
use lib.Signed.{◌<ℤ◌, ◌≤ℤ◌}
use lib.ListN.{length}
use Rattle.geometry.specs.Words.{Point}
use Rattle.geometry.specs.Obstruction.{corner_at, next_corner, side_turn, Obstructs}
use Rattle.geometry.specs.Convexity.{convex}
use Rattle.geometry.proofs.Signed.{◌⊖◌, diff, ring, undiff, positive, nonneg, posn, ⊖-eq, ⊖-lt, lt-⊖, lt_le}
use Rattle.geometry.proofs.Corners.{turn_one}
use Rattle.geometry.proofs.Weights.{enters_of}
use Rattle.geometry.proofs.Obstructing.{of_turns}
use Rattle.sight.specs.inner.Diagonals.{turn_of, Crosses}
use Rattle.sight.proofs.Cones.{start_flat, end_flat, left_of}

-- ---- the turns of four places, from the differences to one of them
gap : (x y z : ℤ) → x -ℤ y ≡ (x -ℤ z) -ℤ (y -ℤ z)
gap = undiff _ (λ a a'. undiff _ (λ b b'. undiff _ (λ c c'. simp diff (⊖-eq _ _ _ _ (omega arith)))))

flip : (x z : ℤ) → z -ℤ x ≡ neg_ℤ (x -ℤ z)
flip = undiff _ (λ a a'. undiff _ (λ b b'. simp diff (⊖-eq _ _ _ _ (omega arith))))

drop_pair : (x y : ℤ) → x +ℤ (y +ℤ neg_ℤ y) ≡ x
drop_pair = undiff _ (λ a a'. undiff _ (λ b b'. simp diff (⊖-eq _ _ _ _ (omega arith))))

around : (a a' b b' : ℤ) → (b -ℤ a) *ℤ neg_ℤ a' -ℤ (b' -ℤ a') *ℤ neg_ℤ a ≡ neg_ℤ (b *ℤ a' -ℤ a *ℤ b')
around =
    undiff _ (λ a e. undiff _ (λ b f. undiff _ (λ c g. undiff _ (λ d h. simp diff (⊖-eq _ _ _ _ (omega arith))))))

-- the weights of both pairs have the same sum
sums : (a a' b b' d d' : ℤ) → (b -ℤ a) *ℤ (d' -ℤ a') -ℤ (b' -ℤ a') *ℤ (d -ℤ a)
    ≡ (neg_ℤ (d *ℤ b' -ℤ d' *ℤ b) +ℤ (d *ℤ a' -ℤ d' *ℤ a)) -ℤ (b *ℤ a' -ℤ a *ℤ b')
sums a a' b b' d d' =
    let e : (b -ℤ a) *ℤ (d' -ℤ a') -ℤ (b' -ℤ a') *ℤ (d -ℤ a)
    ≡ (neg_ℤ (d *ℤ b' -ℤ d' *ℤ b) +ℤ (d *ℤ a' -ℤ d' *ℤ a)) -ℤ (b *ℤ a' -ℤ a *ℤ b') +ℤ (a *ℤ a' +ℤ neg_ℤ (a *ℤ a')) = simp ring in
    e ∙ drop_pair _ (a *ℤ a')

-- and weigh to the same place
weighed : (p q a a' b b' d d' : ℤ)
    → neg_ℤ (d *ℤ b' -ℤ d' *ℤ b) *ℤ (p *ℤ a' -ℤ q *ℤ a) +ℤ (d *ℤ a' -ℤ d' *ℤ a) *ℤ (p *ℤ b' -ℤ q *ℤ b)
    ≡ (b *ℤ a' -ℤ a *ℤ b') *ℤ (p *ℤ d' -ℤ q *ℤ d)
weighed p q a a' b b' d d' =
    let m = d *ℤ (a' *ℤ (p *ℤ b')) in
    let n = d' *ℤ (a *ℤ (q *ℤ b)) in
    let e : neg_ℤ (d *ℤ b' -ℤ d' *ℤ b) *ℤ (p *ℤ a' -ℤ q *ℤ a) +ℤ (d *ℤ a' -ℤ d' *ℤ a) *ℤ (p *ℤ b' -ℤ q *ℤ b)
    ≡ (b *ℤ a' -ℤ a *ℤ b') *ℤ (p *ℤ d' -ℤ q *ℤ d) +ℤ (m +ℤ neg_ℤ m) +ℤ (n +ℤ neg_ℤ n) = simp ring in
    e ∙ drop_pair _ n ∙ drop_pair _ m

-- the turn against a side, from that of another place
from_place : (p q x x' c c' s s' : ℤ) → p *ℤ (x' -ℤ s') -ℤ q *ℤ (x -ℤ s) ≡ (p *ℤ (c' -ℤ s') -ℤ q *ℤ (c -ℤ s)) +ℤ (p *ℤ (x' -ℤ c') -ℤ q *ℤ (x -ℤ c))
from_place p q x x' c c' s s' = rw (gap x' c' s', gap x c s) (parts p q (x -ℤ s) (x' -ℤ s') (c -ℤ s) (c' -ℤ s'))
  where
    parts : (p q x x' c c' : ℤ) → p *ℤ x' -ℤ q *ℤ x ≡ (p *ℤ c' -ℤ q *ℤ c) +ℤ (p *ℤ (x' -ℤ c') -ℤ q *ℤ (x -ℤ c))
    parts =
        undiff _ (λ a e. undiff _ (λ b f. undiff _ (λ c g. undiff _ (λ d h. undiff _ (λ k k'. undiff _ (λ l l'. simp diff (⊖-eq _ _ _ _ (omega arith))))))))

split : (u s g k l : ℤ) → u *ℤ (g +ℤ k) +ℤ s *ℤ (g +ℤ l) ≡ (u *ℤ g +ℤ s *ℤ g) +ℤ (u *ℤ k +ℤ s *ℤ l)
split u s g k l = simp ring

join : (u s w g l : ℤ) → (u *ℤ g +ℤ s *ℤ g) +ℤ w *ℤ l ≡ ((u +ℤ s) -ℤ w) *ℤ g +ℤ w *ℤ (g +ℤ l)
join =
    undiff _ (λ a e. undiff _ (λ b f. undiff _ (λ c g. undiff _ (λ d h. undiff _ (λ k k'. simp diff (⊖-eq _ _ _ _ (omega arith)))))))

shared : (u s v w g k l m : ℤ) → v ≡ (u +ℤ s) -ℤ w → u *ℤ k +ℤ s *ℤ l ≡ w *ℤ m → u *ℤ (g +ℤ k) +ℤ s *ℤ (g +ℤ l) ≡ v *ℤ g +ℤ w *ℤ (g +ℤ m)
shared u s v w g k l m e f = split u s g k l ∙ ap (λ (z : ℤ). (u *ℤ g +ℤ s *ℤ g) +ℤ z) f ∙ join u s w g m ∙ ap (λ (z : ℤ). z *ℤ g +ℤ w *ℤ (g +ℤ m)) (sym e)

-- the same of four places and a side, by their coordinates
module _ (ae an be bn ce cn de dn : ℤ) where
  weight_of_d : neg_ℤ ((be -ℤ ae) *ℤ (cn -ℤ an) -ℤ (bn -ℤ an) *ℤ (ce -ℤ ae)) ≡ (be -ℤ ce) *ℤ (an -ℤ cn) -ℤ (ae -ℤ ce) *ℤ (bn -ℤ cn)
  weight_of_d =
      (λ i. neg_ℤ (gap be ae ce i *ℤ flip an cn i -ℤ gap bn an cn i *ℤ flip ae ce i))
      ∙ ap neg_ℤ (around (ae -ℤ ce) (an -ℤ cn) (be -ℤ ce) (bn -ℤ cn)) ∙ neg_ℤ-neg_ℤ _

  weight_of_c : (be -ℤ ae) *ℤ (dn -ℤ an) -ℤ (bn -ℤ an) *ℤ (de -ℤ ae)
      ≡ (neg_ℤ ((de -ℤ ce) *ℤ (bn -ℤ cn) -ℤ (dn -ℤ cn) *ℤ (be -ℤ ce)) +ℤ ((de -ℤ ce) *ℤ (an -ℤ cn) -ℤ (dn -ℤ cn) *ℤ (ae -ℤ ce)))
      -ℤ ((be -ℤ ce) *ℤ (an -ℤ cn) -ℤ (ae -ℤ ce) *ℤ (bn -ℤ cn))
  weight_of_c =
      (λ i. gap be ae ce i *ℤ gap dn an cn i -ℤ gap bn an cn i *ℤ gap de ae ce i)
      ∙ sums (ae -ℤ ce) (an -ℤ cn) (be -ℤ ce) (bn -ℤ cn) (de -ℤ ce) (dn -ℤ cn)

  meet_at : (p q se sn : ℤ)
      → neg_ℤ ((de -ℤ ce) *ℤ (bn -ℤ cn) -ℤ (dn -ℤ cn) *ℤ (be -ℤ ce)) *ℤ (p *ℤ (an -ℤ sn) -ℤ q *ℤ (ae -ℤ se))
      +ℤ ((de -ℤ ce) *ℤ (an -ℤ cn) -ℤ (dn -ℤ cn) *ℤ (ae -ℤ ce)) *ℤ (p *ℤ (bn -ℤ sn) -ℤ q *ℤ (be -ℤ se))
      ≡ ((be -ℤ ae) *ℤ (dn -ℤ an) -ℤ (bn -ℤ an) *ℤ (de -ℤ ae)) *ℤ (p *ℤ (cn -ℤ sn) -ℤ q *ℤ (ce -ℤ se))
      +ℤ neg_ℤ ((be -ℤ ae) *ℤ (cn -ℤ an) -ℤ (bn -ℤ an) *ℤ (ce -ℤ ae)) *ℤ (p *ℤ (dn -ℤ sn) -ℤ q *ℤ (de -ℤ se))
  meet_at p q se sn =
      let u = neg_ℤ ((de -ℤ ce) *ℤ (bn -ℤ cn) -ℤ (dn -ℤ cn) *ℤ (be -ℤ ce)) in
      let s = (de -ℤ ce) *ℤ (an -ℤ cn) -ℤ (dn -ℤ cn) *ℤ (ae -ℤ ce) in
      let v = (be -ℤ ae) *ℤ (dn -ℤ an) -ℤ (bn -ℤ an) *ℤ (de -ℤ ae) in
      let g = p *ℤ (cn -ℤ sn) -ℤ q *ℤ (ce -ℤ se) in
      (λ i. u *ℤ from_place p q ae an ce cn se sn i +ℤ s *ℤ from_place p q be bn ce cn se sn i)
      ∙ shared u s v ((be -ℤ ce) *ℤ (an -ℤ cn) -ℤ (ae -ℤ ce) *ℤ (bn -ℤ cn)) g (p *ℤ (an -ℤ cn) -ℤ q *ℤ (ae -ℤ ce)) (p *ℤ (bn -ℤ cn) -ℤ q *ℤ (be -ℤ ce)) (p *ℤ (dn -ℤ cn) -ℤ q *ℤ (de -ℤ ce))
      weight_of_c (weighed p q (ae -ℤ ce) (an -ℤ cn) (be -ℤ ce) (bn -ℤ cn) (de -ℤ ce) (dn -ℤ cn))
      ∙ sym (λ i. v *ℤ g +ℤ weight_of_d i *ℤ from_place p q de dn ce cn se sn i)

turns_meet : (p q a b c d : Point) → neg_ℤ (turn_of c d b) *ℤ turn_of p q a +ℤ turn_of c d a *ℤ turn_of p q b ≡ turn_of a b d *ℤ turn_of p q c +ℤ neg_ℤ (turn_of a b c) *ℤ turn_of p q d
turns_meet p q a b c d =
    (λ i. neg_ℤ (one c d b i) *ℤ one p q a i +ℤ one c d a i *ℤ one p q b i)
    ∙ meet_at (pos a.east) (pos a.north) (pos b.east) (pos b.north) (pos c.east) (pos c.north) (pos d.east) (pos d.north)
    (pos q.east -ℤ pos p.east) (pos q.north -ℤ pos p.north) (pos p.east) (pos p.north)
    ∙ sym (λ i. one a b d i *ℤ one p q c i +ℤ neg_ℤ (one a b c i) *ℤ one p q d i)
  where
    one : (p q x : Point) → turn_of p q x
        ≡ (pos q.east -ℤ pos p.east) *ℤ (pos x.north -ℤ pos p.north) -ℤ (pos q.north -ℤ pos p.north) *ℤ (pos x.east -ℤ pos p.east)
    one p q x = turn_one p q (pos x.east) (pos x.north)

-- ---- weights
natural : (z : ℤ) → pos 0 <ℤ z → (n : ℕ) × (1 ≤ n) × (pos n ≡ z)
natural z h = positive (λ z. (n : ℕ) × (1 ≤ n) × (pos n ≡ z)) (λ a. (suc a, omega arith, posn (suc a))) z h

neg_above : (z : ℤ) → z <ℤ pos 0 → pos 0 <ℤ neg_ℤ z
neg_above z = undiff (λ z. z <ℤ pos 0 → pos 0 <ℤ neg_ℤ z) (λ p q. simp diff (λ h. ⊖-lt _ _ _ _ (omega (arith, lt-⊖ _ _ _ _ h)))) z

sum_above : (v w x y : ℤ) → pos 0 <ℤ v → pos 0 <ℤ w → pos 0 ≤ℤ x → pos 0 <ℤ y → pos 0 <ℤ (v *ℤ x +ℤ w *ℤ y)
sum_above v w x y v₀ w₀ x₀ y₀ =
    positive (λ v. pos 0 <ℤ (v *ℤ x +ℤ w *ℤ y))
    (λ a. positive (λ w. pos 0 <ℤ ((suc a ⊖ 0) *ℤ x +ℤ w *ℤ y))
    (λ b. nonneg (λ x. pos 0 <ℤ ((suc a ⊖ 0) *ℤ x +ℤ (suc b ⊖ 0) *ℤ y))
    (λ c. positive (λ y. pos 0 <ℤ ((suc a ⊖ 0) *ℤ (c ⊖ 0) +ℤ (suc b ⊖ 0) *ℤ y)) (λ d. simp diff (⊖-lt _ _ _ _ (omega arith))) y y₀) x x₀) w w₀) v v₀

zero_least : pos 0 ≤ℤ pos 0
zero_least = record { le = tt }

-- neither number is below 0, and not both are 0
one_above : {A B : Type 0} (v w x y : ℤ) → pos 0 <ℤ v → pos 0 <ℤ w → (A → B → ⊥)
    → (A × (x ≡ pos 0)) ⊎ (pos 0 <ℤ x) → (B × (y ≡ pos 0)) ⊎ (pos 0 <ℤ y) → pos 0 <ℤ (v *ℤ x +ℤ w *ℤ y)
one_above v w x y v₀ w₀ f (inl a) (inl b) = absurd (f a.0 b.0)
one_above v w x y v₀ w₀ f (inl a) (inr b) = sum_above v w x y v₀ w₀ (rw a.1 zero_least) b
one_above v w x y v₀ w₀ f (inr a) (inl b) = rw (+ℤ_comm (v *ℤ x) (w *ℤ y)) (sum_above w v y x w₀ v₀ (rw b.1 zero_least) a)
one_above v w x y v₀ w₀ f (inr a) (inr b) = sum_above v w x y v₀ w₀ (lt_le a) b

-- ---- the diagonal
abbrev Ends : List Point → ℕ → ℕ → Type 0
Ends ps k i = (i ≡ k) ⊎ (i ≡ next_corner ps k)

module _ (ps : List Point) (k : ℕ) (c : convex ps ≡ true) (m : k < length ps) where
  placed : (i : ℕ) → i < length ps → (Ends ps k i × (side_turn ps (corner_at ps i) k ≡ pos 0)) ⊎ (pos 0 <ℤ side_turn ps (corner_at ps i) k)
  placed i h = go (ℕ_discrete i k) (ℕ_discrete i (next_corner ps k))
    where
      go : Dec (i ≡ k) → Dec (i ≡ next_corner ps k) → (Ends ps k i × (side_turn ps (corner_at ps i) k ≡ pos 0)) ⊎ (pos 0 <ℤ side_turn ps (corner_at ps i) k)
      go (yes e) d = inl (inl e, ap (λ (x : ℕ). side_turn ps (corner_at ps x) k) e ∙ start_flat ps k)
      go (no f) (yes e) = inl (inr e, ap (λ (x : ℕ). side_turn ps (corner_at ps x) k) e ∙ end_flat ps k)
      go (no f) (no g) = inr (left_of ps k i c m h f g)

-- corners i and j are different and not neighbours
pub record Diagonal (ps : List Point) (i j : ℕ) : Type 0 where
  pub first : i < length ps
  pub second : j < length ps
  pub distinct : i ≡ j → ⊥
  pub after : j ≡ next_corner ps i → ⊥
  pub before : i ≡ next_corner ps j → ⊥

pub diagonal_sym : {ps : List Point} {i j : ℕ} → Diagonal ps i j → Diagonal ps j i
diagonal_sym d = record { first = d.second; second = d.first; distinct = λ e. d.distinct (sym e); after = d.before; before = d.after }

module _ (ps : List Point) (i j : ℕ) (a b : Point) (c : convex ps ≡ true) (d : Diagonal ps i j) (x : Crosses (corner_at ps i) (corner_at ps j) a b) where
  not_both : (k : ℕ) → Ends ps k i → Ends ps k j → ⊥
  not_both k (inl e) (inl f) = d.distinct (e ∙ sym f)
  not_both k (inl e) (inr f) = d.after (f ∙ ap (next_corner ps) (sym e))
  not_both k (inr e) (inl f) = d.before (e ∙ ap (next_corner ps) (sym f))
  not_both k (inr e) (inr f) = d.distinct (e ∙ sym f)

  weighed_left : (k : ℕ) → k < length ps
      → pos 0 <ℤ (turn_of a b (corner_at ps j) *ℤ side_turn ps (corner_at ps i) k +ℤ neg_ℤ (turn_of a b (corner_at ps i)) *ℤ side_turn ps (corner_at ps j) k)
  weighed_left k m =
      one_above _ _ _ _ x.across.left (neg_above _ x.across.right) (not_both k)
      (placed ps k c m i d.first) (placed ps k c m j d.second)

  pub crosses_hides : Obstructs ps a b
  unfolding side_turn
  crosses_hides =
      let u = natural (neg_ℤ (turn_of (corner_at ps i) (corner_at ps j) b)) (neg_above _ x.between.right) in
      let s = natural (turn_of (corner_at ps i) (corner_at ps j) a) x.between.left in
      of_turns ps a b
      (enters_of (length ps) (side_turn ps a) (side_turn ps b) u.0 s.0 (omega (arith, u.1))
      (λ k m. subst (λ (z : ℤ). pos 0 <ℤ z)
      (sym ((λ i. u.2 i *ℤ side_turn ps a k +ℤ s.2 i *ℤ side_turn ps b k)
      ∙ turns_meet (corner_at ps k) (corner_at ps (next_corner ps k)) a b (corner_at ps i) (corner_at ps j)))
      (weighed_left k m)))
