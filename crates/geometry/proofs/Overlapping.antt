-- A polygon that obstructs a segment overlaps it: no point that lies strictly left of every side is at the edge of the polygon's rectangle or beyond it.
use mathlib.Core.Path.{◌≡◌, ap, ◌∙◌}
use mathlib.Core.List.{List, [], ◌∷◌}
use Prim.Native.Nat.{ℕ, zero, suc, ◌+◌, ◌*◌, ◌-◌, ◌%◌, ◌<◌, ◌≤◌}
use native.Mathlib.Decide.{dec_lt}
use native.Mathlib.Nat.{mul-le-mul_left, mod-eq_of_lt, mod_self}
use native.Mathlib.Omega.{arith}
use lib.IntN.{ℤ, pos, neg_ℤ, ◌-ℤ◌, ◌*ℤ◌}
use lib.Signed.{◌≤ℤ◌, ◌<ℤ◌}
use lib.ListN.{length}
use Rattle.geometry.specs.Words.{Point, word, block_words, corners}
use Rattle.geometry.specs.Obstruction.{corner_at, next_corner, turn, along, InsideAt, Obstructs, Hidden}
use Rattle.geometry.specs.Overlap.{least, greatest, Overlaps}
use Rattle.geometry.proofs.Signed.{diff, ring, undiff, positive, ⊖-eq, ⊖-le, ⊖-lt, lt-⊖, le-⊖}
use Rattle.geometry.proofs.Corners.{places_length}
use Rattle.geometry.proofs.Extremes.{least_at, greatest_at, least_two, greatest_two}
use Rattle.geometry.proofs.Rounds.{Left, around}

-- ---- a place of the segment, against a bound of both ends
along_to : (u t a b c : ℕ) → a ≤ c → b ≤ c → along (u + t) t a b ≤ℤ pos ((u + t) * c)
unfolding along
along_to u t a b c f g = simp diff (⊖-le _ _ _ _ (omega (arith, mul-le-mul_left u f, mul-le-mul_left t g)))

along_from : (u t a b c : ℕ) → c ≤ a → c ≤ b → pos ((u + t) * c) ≤ℤ along (u + t) t a b
unfolding along
along_from u t a b c f g = simp diff (⊖-le _ _ _ _ (omega (arith, mul-le-mul_left u f, mul-le-mul_left t g)))

-- ---- the corners as vectors from a point (e, m), all multiplied by n
pub from_point : (pe pn qe qn e m : ℤ) → (qe -ℤ pe) *ℤ (m -ℤ pn) -ℤ (qn -ℤ pn) *ℤ (e -ℤ pe) ≡ (pe -ℤ e) *ℤ (qn -ℤ m) -ℤ (pn -ℤ m) *ℤ (qe -ℤ e)
from_point =
    undiff _ (λ a a'. undiff _ (λ b b'. undiff _ (λ c c'. undiff _ (λ d d'. undiff _ (λ e e'. undiff _ (λ f f'.
    simp diff (⊖-eq _ _ _ _ (omega arith))))))))

pub multiplied : (n pe pn qe qn x y : ℤ) → n *ℤ ((qe -ℤ pe) *ℤ x -ℤ (qn -ℤ pn) *ℤ y) ≡ (n *ℤ qe -ℤ n *ℤ pe) *ℤ x -ℤ (n *ℤ qn -ℤ n *ℤ pn) *ℤ y
multiplied n pe pn qe qn x y = simp ring

gap_lt : (x y : ℤ) → pos 0 <ℤ (x -ℤ y) → y <ℤ x
gap_lt = undiff _ (λ a a'. undiff _ (λ b b'. simp diff (λ h. ⊖-lt _ _ _ _ (omega (arith, lt-⊖ _ _ _ _ h)))))

gap_le : (x y : ℤ) → y ≤ℤ x → pos 0 ≤ℤ (x -ℤ y)
gap_le = undiff _ (λ a a'. undiff _ (λ b b'. simp diff (λ h. ⊖-le _ _ _ _ (omega (arith, le-⊖ _ _ _ _ h)))))

neg_gap_le : (x y : ℤ) → x ≤ℤ y → pos 0 ≤ℤ neg_ℤ (x -ℤ y)
neg_gap_le = undiff _ (λ a a'. undiff _ (λ b b'. simp diff (λ h. ⊖-le _ _ _ _ (omega (arith, le-⊖ _ _ _ _ h)))))

pub times_pos : (n : ℕ) (z : ℤ) → 1 ≤ n → pos 0 <ℤ z → pos 0 <ℤ (pos n *ℤ z)
times_pos zero z h = absurd (omega arith)
times_pos (suc n) z h = positive (λ z. pos 0 <ℤ (pos (suc n) *ℤ z)) (λ a. simp diff (⊖-lt _ _ _ _ (omega arith))) z

turn_left : (p q : Point) (n : ℕ) (e m : ℤ) → 1 ≤ n → pos 0 <ℤ turn p q n e m
    → Left (pos (n * p.east) -ℤ e) (pos (n * p.north) -ℤ m) (pos (n * q.east) -ℤ e) (pos (n * q.north) -ℤ m)
unfolding turn
turn_left p q n e m h l =
    gap_lt _ _ (rw (multiplied (pos n) (pos p.east) (pos p.north) (pos q.east) (pos q.north) (m -ℤ pos (n * p.north)) (e -ℤ pos (n * p.east)), from_point (pos (n * p.east)) (pos (n * p.north)) (pos (n * q.east)) (pos (n * q.north)) e m)
    at (times_pos n _ h l))

-- ---- the corners go round a point that is left of every side, and do not all lie on one side of it
module _ (ps : List Point) (x y : ℕ → ℤ) where
  abbrev Rounding : Type 0
  Rounding = (k : ℕ) → k < length ps → Left (x k) (y k) (x (next_corner ps k)) (y (next_corner ps k))

  one_sided : Rounding → 0 < length ps → ((k : ℕ) → k < length ps → pos 0 ≤ℤ x k) → ⊥
  one_sided s some f =
      around x y (length ps - 1) (λ k h. f k (omega arith)) (λ k h. step k (suc k) (omega arith) (inner k (omega arith))) (step (length ps - 1) 0 (omega arith) last)
    where
      step : (k j : ℕ) → k < length ps → next_corner ps k ≡ j → Left (x k) (y k) (x j) (y j)
      step k j h e = rw e at (s k h)

      inner : (k : ℕ) → k + 1 < length ps → next_corner ps k ≡ suc k
      inner k h = mod-eq_of_lt h ∙ omega arith

      last : next_corner ps (length ps - 1) ≡ 0
      last = let e : length ps - 1 + 1 ≡ length ps = omega arith in ap (λ (j : ℕ). j % length ps) e ∙ mod_self (length ps)

-- all vectors turned by a quarter
quarter : (ps : List Point) (x y : ℕ → ℤ) → Rounding ps x y → Rounding ps y (λ k. neg_ℤ (x k))
quarter ps x y s k h = turned (x k) (y k) (x (next_corner ps k)) (y (next_corner ps k)) (s k h)
  where
    turned : (a b c d : ℤ) → Left a b c d → Left b (neg_ℤ a) d (neg_ℤ c)
    turned =
        undiff _ (λ a a'. undiff _ (λ b b'. undiff _ (λ c c'. undiff _ (λ d d'.
        simp diff (λ h. ⊖-lt _ _ _ _ (omega (arith, lt-⊖ _ _ _ _ h)))))))

module _ (ps : List Point) (a b : Point) (some : 0 < length ps) (n t : ℕ) (h : InsideAt ps a b n t) where
  -- how far corner k lies from the place t / n of the way, times n
  abbrev gap : (Point → ℕ) → ℕ → ℤ
  gap c k = pos (n * c (corner_at ps k)) -ℤ along n t (c a) (c b)

  whole_way : n ≡ n - t + t
  whole_way = omega (arith, h.within)

  begins : (c : Point → ℕ) → (((k : ℕ) → k < length ps → pos 0 ≤ℤ gap c k) → ⊥) → least c ps < greatest c (a ∷ b ∷ [])
  begins c f = elim (dec_lt (least c ps) (greatest c (a ∷ b ∷ []))) [ yes l ↦ l | no l ↦ absurd (f (λ k i. gap_le _ _ (beyond l k i))) ]
    where
      beyond : (least c ps < greatest c (a ∷ b ∷ []) → ⊥) → (k : ℕ) → k < length ps → along n t (c a) (c b) ≤ℤ pos (n * c (corner_at ps k))
      beyond l k i =
          rw whole_way
          (along_to (n - t) t (c a) (c b) (c (corner_at ps k)) (omega (arith, least_at c ps k i, greatest_two c a b)) (omega (arith, least_at c ps k i, greatest_two c a b)))

  ends : (c : Point → ℕ) → (((k : ℕ) → k < length ps → pos 0 ≤ℤ neg_ℤ (gap c k)) → ⊥) → least c (a ∷ b ∷ []) < greatest c ps
  ends c f = elim (dec_lt (least c (a ∷ b ∷ [])) (greatest c ps)) [ yes l ↦ l | no l ↦ absurd (f (λ k i. neg_gap_le _ _ (before l k i))) ]
    where
      before : (least c (a ∷ b ∷ []) < greatest c ps → ⊥) → (k : ℕ) → k < length ps → pos (n * c (corner_at ps k)) ≤ℤ along n t (c a) (c b)
      before l k i =
          rw whole_way
          (along_from (n - t) t (c a) (c b) (c (corner_at ps k)) (omega (arith, greatest_at c ps k i, least_two c a b)) (omega (arith, greatest_at c ps k i, least_two c a b)))

  abbrev east : ℕ → ℤ
  east = gap (λ p. p.east)

  abbrev north : ℕ → ℤ
  north = gap (λ p. p.north)

  abbrev west : ℕ → ℤ
  west k = neg_ℤ (east k)

  abbrev south : ℕ → ℤ
  south k = neg_ℤ (north k)

  inside_overlaps : Overlaps ps a b
  unfolding Overlaps
  inside_overlaps =
      let round : Rounding ps east north = λ k i. turn_left (corner_at ps k) (corner_at ps (next_corner ps k)) n _ _ h.whole (h.left k i) in
      let first = quarter ps east north round in
      let second = quarter ps north west first in
      let third = quarter ps west south second in (
        (begins (λ p. p.east) (one_sided ps east north round some), ends (λ p. p.east) (one_sided ps west south second some)),
        (begins (λ p. p.north) (one_sided ps north west first some), ends (λ p. p.north) (one_sided ps south (λ k. neg_ℤ (west k)) third some)),
      )

-- the law that lets the search pass a block
pub obstructs_overlaps : (ps : List Point) (a b : Point) → 0 < length ps → Obstructs ps a b → Overlaps ps a b
obstructs_overlaps ps a b some h = inside_overlaps ps a b some h.0 h.1 h.2

pub hidden_overlaps : (blocks : List ℕ) (n : ℕ) (a b : Point) → Hidden blocks n a b → Overlaps (corners (block_words blocks n)) a b
hidden_overlaps blocks n a b h = obstructs_overlaps _ a b (rw (places_length (block_words blocks n) 1 (word (block_words blocks n) 0)) h.stands) h.across
