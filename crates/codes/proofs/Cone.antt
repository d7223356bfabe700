-- The cone: a straight with no end strictly inside and no side that both ends are not left of goes through the inside exactly where it passes
-- between two corners, and two corners where the first end's sides change are enough to look at.
use mathlib.Core.Path.{◌≡◌, refl, sym, ◌∙◌, subst}
use mathlib.Core.Logic.{⊎_elim}
use mathlib.Core.List.{List}
use Prim.Native.Nat.{ℕ, ◌+◌, ◌<◌, ◌≤◌}
use lib.IntN.{ℤ, pos, ◌+ℤ◌, ◌-ℤ◌, ◌*ℤ◌, *ℤ_comm, *ℤ-zero}
use lib.Signed.{◌<ℤ◌, ◌≤ℤ◌, ≤ℤ_refl, clash_ℤ}
use lib.ListN.{length}
use Rattle.geometry.specs.Words.{Point}
use Rattle.geometry.specs.Obstruction.{corner_at, next_corner, side_turn, Obstructs}
use Rattle.geometry.proofs.Signed.{below_or_not}
use Rattle.geometry.proofs.Sides.{Crossed}
use Rattle.geometry.proofs.Obstructing.{obstructs_iff}
use Rattle.seams.specs.inner.Reach.{Around}
use Rattle.codes.proofs.Crosses.{turn_at, bend, balance}
use Rattle.codes.proofs.Signs.{sum_low, sum_down, sum_up, sum_high, sum_flat, two_up, two_level, gap_up, lt_gap, gap_lt, gap_le, le_gap, signs_apart, room}
use Rattle.codes.proofs.Rounds.{Round, side_first, side_last, bend_left}

-- a side that the first end is not left of against one that it is left of
crossed_apart : (m : ℕ) (x y : ℕ → ℤ) → Crossed m x y → (i j : ℕ) → i < m → j < m → x i ≤ℤ pos 0 → pos 0 <ℤ x j → (x i *ℤ y j) <ℤ (x j *ℤ y i)
crossed_apart m x y c i j h k x₀ x₁ =
    ⊎_elim (λ y₁. ⊎_elim (λ y₀. signs_apart (x i) (y j) (x j) (y i) x₀ y₁ x₁ y₀) (λ y₀. absurd (c.each i h x₀ y₀)) (below_or_not (pos 0) (y i)))
    (λ y₁. c.pairs i j h k x₀ y₁)
    (below_or_not (pos 0) (y j))

module _ (ps : List Point) (r : Round ps) (a b : Point) where
  abbrev x : ℕ → ℤ
  x = side_turn ps a

  abbrev y : ℕ → ℤ
  y = side_turn ps b

  -- the turn of corner k against the straight
  abbrev F : ℕ → ℤ
  F k = turn_at a b (corner_at ps k)

  -- how far side j turns left of side i
  abbrev K : ℕ → ℕ → ℤ
  K i j = bend (corner_at ps i) (corner_at ps (next_corner ps i)) (corner_at ps j) (corner_at ps (next_corner ps j))

  weigh : (i j : ℕ) (v : Point) → ((x j -ℤ y j) *ℤ side_turn ps v i) +ℤ ((y i -ℤ x i) *ℤ side_turn ps v j)
      ≡ ((x j *ℤ y i) -ℤ (x i *ℤ y j)) +ℤ (K i j *ℤ turn_at a b v)
  unfolding side_turn
  weigh i j v = balance (corner_at ps i) (corner_at ps (next_corner ps i)) (corner_at ps j) (corner_at ps (next_corner ps j)) a b v

  -- ---- the corner between side k and the next
  at_corner : (k : ℕ) → pos 0 ≡ ((x (next_corner ps k) *ℤ y k) -ℤ (x k *ℤ y (next_corner ps k))) +ℤ (K k (next_corner ps k) *ℤ F (next_corner ps k))
  at_corner k =
      let n = next_corner ps k in
      sym (rw (side_last ps k, side_first ps n, *ℤ-zero (x n -ℤ y n), *ℤ-zero (y k -ℤ x k)) refl)
      ∙ weigh k n (corner_at ps n)

  module _ (c : Crossed (length ps) x y) (k : ℕ) (h : k < length ps) (i : next_corner ps k < length ps) where
    pub corner_left : pos 0 <ℤ x k → x (next_corner ps k) ≤ℤ pos 0 → pos 0 <ℤ F (next_corner ps k)
    corner_left x₀ x₁ =
        let n = next_corner ps k in
        let s : ((x n *ℤ y k) -ℤ (x k *ℤ y n)) <ℤ pos 0 = gap_lt (x n *ℤ y k) (x k *ℤ y n) (crossed_apart (length ps) x y c n k i h x₁ x₀) in
        ⊎_elim (λ t. t) (λ t. never (sum_down _ (K k n) (F n) s (bend_left ps r k h) t))
        (below_or_not (pos 0) (F n))
      where
        never : {X : Type 0} → (((x (next_corner ps k) *ℤ y k) -ℤ (x k *ℤ y (next_corner ps k))) +ℤ (K k (next_corner ps k) *ℤ F (next_corner ps k))) <ℤ pos 0 → X
        never t = clash_ℤ (subst (λ (z : ℤ). z <ℤ pos 0) (sym (at_corner k)) t) (≤ℤ_refl (pos 0))

    pub corner_right : x k ≤ℤ pos 0 → pos 0 <ℤ x (next_corner ps k) → F (next_corner ps k) <ℤ pos 0
    corner_right x₀ x₁ =
        let n = next_corner ps k in
        let s : pos 0 <ℤ ((x n *ℤ y k) -ℤ (x k *ℤ y n)) = lt_gap (x n *ℤ y k) (x k *ℤ y n) (crossed_apart (length ps) x y c k n h i x₀ x₁) in
        ⊎_elim (λ t. t) (λ t. never (sum_up _ (K k n) (F n) s (bend_left ps r k h) t))
        (below_or_not (F n) (pos 0))
      where
        never : {X : Type 0} → pos 0 <ℤ (((x (next_corner ps k) *ℤ y k) -ℤ (x k *ℤ y (next_corner ps k))) +ℤ (K k (next_corner ps k) *ℤ F (next_corner ps k))) → X
        never t = clash_ℤ (subst (λ (z : ℤ). pos 0 <ℤ z) (sym (at_corner k)) t) (≤ℤ_refl (pos 0))

  -- ---- a place of the straight in the block: neither corner is strictly on the wrong side of the straight's line
  module _ (each : (k : ℕ) → k < length ps → x k ≤ℤ pos 0 → y k ≤ℤ pos 0 → ⊥) (u s : ℕ) (w : 1 ≤ u + s) (on : Around (length ps) x y u s)
      (k : ℕ) (h : k < length ps) (i : next_corner ps k < length ps) where
    left_too : (l : ℕ) → l < length ps → x l ≤ℤ pos 0 → pos 0 <ℤ y l
    left_too l m x₀ = ⊎_elim (λ t. t) (λ t. absurd (each l m x₀ t)) (below_or_not (pos 0) (y l))

    pub touched_left : pos 0 <ℤ x k → x (next_corner ps k) ≤ℤ pos 0 → F (next_corner ps k) <ℤ pos 0 → ⊥
    touched_left x₀ x₁ t =
        let n = next_corner ps k in
        let q : (x n *ℤ y k) ≤ℤ (x k *ℤ y n) = room u s (x n) (y n) (x k) (y k) w x₁ (left_too n i x₁) x₀ (on n i) (on k h) in
        clash_ℤ (subst (λ (z : ℤ). z <ℤ pos 0) (sym (at_corner k)) (sum_low _ (K k n) (F n) (gap_le (x n *ℤ y k) (x k *ℤ y n) q) (bend_left ps r k h) t)) (≤ℤ_refl (pos 0))

    pub touched_right : x k ≤ℤ pos 0 → pos 0 <ℤ x (next_corner ps k) → pos 0 <ℤ F (next_corner ps k) → ⊥
    touched_right x₀ x₁ t =
        let n = next_corner ps k in
        let q : (x k *ℤ y n) ≤ℤ (x n *ℤ y k) = room u s (x k) (y k) (x n) (y n) w x₀ (left_too k h x₀) x₁ (on k h) (on n i) in
        clash_ℤ (subst (λ (z : ℤ). pos 0 <ℤ z) (sym (at_corner k)) (sum_high _ (K k n) (F n) (le_gap (x n *ℤ y k) (x k *ℤ y n) q) (bend_left ps r k h) t)) (≤ℤ_refl (pos 0))

  -- ---- the other way: any two corners on different sides of the straight's line
  module _ (each : (k : ℕ) → k < length ps → x k ≤ℤ pos 0 → y k ≤ℤ pos 0 → ⊥) (f g : ℕ) (hf : f < length ps) (hg : g < length ps)
      (f₀ : pos 0 <ℤ F f) (g₀ : F g <ℤ pos 0) where
    -- two sides that leave no room between them would have every corner on one side
    shut : (i j : ℕ) → i < length ps → j < length ps → x i ≤ℤ pos 0 → y j ≤ℤ pos 0 → pos 0 <ℤ y i → pos 0 <ℤ x j → (x j *ℤ y i) ≤ℤ (x i *ℤ y j) → ⊥
    shut i j hi hj x₀ y₀ y₁ x₁ no_room =
        ⊎_elim (λ k₀. clash_ℤ (sum_low S (K i j) (F g) s k₀ g₀) (at g hg))
        (λ k₀. ⊎_elim (λ k₁. clash_ℤ (subst (λ (z : ℤ). (S +ℤ z) <ℤ pos 0) (*ℤ_comm (F f) (K i j)) (sum_low S (F f) (K i j) s f₀ k₁)) (at f hf))
        (λ k₁. clash_ℤ above (sum_flat S (K i j) (F o) s k₀ k₁)) (below_or_not (K i j) (pos 0)))
        (below_or_not (pos 0) (K i j))
      where
        S : ℤ
        S = (x j *ℤ y i) -ℤ (x i *ℤ y j)

        s : S ≤ℤ pos 0
        s = gap_le (x j *ℤ y i) (x i *ℤ y j) no_room

        o : ℕ
        o = next_corner ps (next_corner ps i)

        at : (l : ℕ) → l < length ps → pos 0 ≤ℤ (S +ℤ K i j *ℤ F l)
        at l h =
            subst (λ (z : ℤ). pos 0 ≤ℤ z) (weigh i j (corner_at ps l))
            (two_level (x j -ℤ y j) _ (y i -ℤ x i) _ (gap_up (x j) (y j) x₁ y₀) (r.none_right i l hi h) (gap_up (y i) (x i) y₁ x₀) (r.none_right j l hj h))

        above : pos 0 <ℤ (S +ℤ K i j *ℤ F o)
        above =
            subst (λ (z : ℤ). pos 0 <ℤ z) (weigh i j (corner_at ps o))
            (two_up (x j -ℤ y j) _ (y i -ℤ x i) _ (gap_up (x j) (y j) x₁ y₀) (r.next_left i hi) (gap_up (y i) (x i) y₁ x₀) (r.none_right j o hj (r.next_below i hi)))

    pub between_corners : Obstructs ps a b
    between_corners =
        (obstructs_iff ps a b).1 (record {
          each = each;
          pairs = λ i j hi hj x₀ y₀.
              let y₁ : pos 0 <ℤ y i = ⊎_elim (λ t. t) (λ t. absurd (each i hi x₀ t)) (below_or_not (pos 0) (y i)) in
              let x₁ : pos 0 <ℤ x j = ⊎_elim (λ t. t) (λ t. absurd (each j hj t y₀)) (below_or_not (pos 0) (x j)) in
              ⊎_elim (λ t. t) (λ t. absurd (shut i j hi hj x₀ y₀ y₁ x₁ t)) (below_or_not (x i *ℤ y j) (x j *ℤ y i));
        })
