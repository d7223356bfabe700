-- A place that lies left of every side of a solid polygon or on it lies in the polygon's enclosing rectangle.
use mathlib.Core.Path.{◌≡◌, ap, ◌∙◌}
use mathlib.Core.Logic.{⊎_elim}
use mathlib.Core.List.{List}
use Prim.Native.Nat.{ℕ, suc, ◌+◌, ◌*◌, ◌-◌, ◌%◌, ◌<◌, ◌≤◌}
use native.Mathlib.Nat.{mul-le-mul_left, mul-lt-mul_of_pos_left, mod-eq_of_lt, mod_self}
use native.Mathlib.Omega.{arith}
use lib.IntN.{ℤ, pos, neg_ℤ, ◌-ℤ◌, ◌*ℤ◌}
use lib.Signed.{◌≤ℤ◌, ◌<ℤ◌}
use lib.ListN.{length}
use Rattle.geometry.specs.Words.{Point}
use Rattle.geometry.specs.Obstruction.{corner_at, next_corner, turn, side_turn}
use Rattle.geometry.proofs.Signed.{diff, ring, undiff, nonneg, below_or_not, ⊖-eq, ⊖-le, ⊖-lt, lt-⊖, le-⊖}
use Rattle.geometry.proofs.Corners.{turn_one}
use Rattle.geometry.proofs.Overlapping.{from_point, multiplied, times_pos}
use Rattle.seams.specs.Seam.{Covers}
use Rattle.neighbours.specs.inner.Rectangles.{Solid}
use Rattle.neighbours.proofs.Bends.{Ahead, Bend, around}

-- ---- the corners of a polygon, as vectors from a place
module _ (ps : List Point) (x y : ℕ → ℤ) where
  -- they go round the place, and the first three turn left
  record Round : Type 0 where
    three : 3 ≤ length ps
    steps : (k : ℕ) → k < length ps → Ahead (x k) (y k) (x (next_corner ps k)) (y (next_corner ps k))
    bend : Bend (x 0) (y 0) (x 1) (y 1) (x 2) (y 2)

  one_sided : Round → ((k : ℕ) → k < length ps → pos 0 <ℤ x k) → ⊥
  one_sided s f =
      around x y (length ps - 1) (omega (arith, s.three)) (λ k h. f k (omega (arith, s.three)))
      (λ k h. step k (suc k) (omega arith) (inner k (omega arith))) (step (length ps - 1) 0 (omega (arith, s.three)) last) s.bend
    where
      step : (k j : ℕ) → k < length ps → next_corner ps k ≡ j → Ahead (x k) (y k) (x j) (y j)
      step k j h e = rw e at (s.steps k h)

      inner : (k : ℕ) → k + 1 < length ps → next_corner ps k ≡ suc k
      inner k h = mod-eq_of_lt h ∙ omega arith

      last : next_corner ps (length ps - 1) ≡ 0
      last = let e : length ps - 1 + 1 ≡ length ps = omega (arith, s.three) in ap (λ (j : ℕ). j % length ps) e ∙ mod_self (length ps)

-- all vectors turned by a quarter
quarter : (ps : List Point) (x y : ℕ → ℤ) → Round ps x y → Round ps y (λ k. neg_ℤ (x k))
quarter ps x y s =
    record {
      three = s.three;
      steps = λ k h. turned (x k) (y k) (x (next_corner ps k)) (y (next_corner ps k)) (s.steps k h);
      bend = rw (bent (x 0) (y 0) (x 1) (y 1) (x 2) (y 2)) s.bend;
    }
  where
    turned : (a b c d : ℤ) → Ahead a b c d → Ahead b (neg_ℤ a) d (neg_ℤ c)
    turned =
        undiff _ (λ a a'. undiff _ (λ b b'. undiff _ (λ c c'. undiff _ (λ d d'.
        simp diff (λ h. ⊖-le _ _ _ _ (omega (arith, le-⊖ _ _ _ _ h)))))))

    bent : (a b c d e f : ℤ) → (d -ℤ b) *ℤ (neg_ℤ e -ℤ neg_ℤ a) -ℤ (neg_ℤ c -ℤ neg_ℤ a) *ℤ (f -ℤ b) ≡ (c -ℤ a) *ℤ (f -ℤ b) -ℤ (d -ℤ b) *ℤ (e -ℤ a)
    bent =
        undiff _ (λ a a'. undiff _ (λ b b'. undiff _ (λ c c'. undiff _ (λ d d'. undiff _ (λ e e'. undiff _ (λ f f'.
        simp diff (⊖-eq _ _ _ _ (omega arith))))))))

-- ---- the corners as vectors from the place (e / n, d / n), all multiplied by n
times_nonneg : (n : ℕ) (z : ℤ) → pos 0 ≤ℤ z → pos 0 ≤ℤ (pos n *ℤ z)
times_nonneg n z = nonneg (λ z. pos 0 ≤ℤ (pos n *ℤ z)) (λ a. simp diff (⊖-le _ _ _ _ (omega arith))) z

gap_not : (x y : ℤ) → pos 0 ≤ℤ (x -ℤ y) → y ≤ℤ x
gap_not = undiff _ (λ a a'. undiff _ (λ b b'. simp diff (λ h. ⊖-le _ _ _ _ (omega (arith, le-⊖ _ _ _ _ h)))))

turn_ahead : (p q : Point) (n : ℕ) (e d : ℤ) → pos 0 ≤ℤ turn p q n e d
    → Ahead (pos (n * p.east) -ℤ e) (pos (n * p.north) -ℤ d) (pos (n * q.east) -ℤ e) (pos (n * q.north) -ℤ d)
unfolding turn
turn_ahead p q n e d l =
    gap_not _ _ (rw (multiplied (pos n) (pos p.east) (pos p.north) (pos q.east) (pos q.north) (d -ℤ pos (n * p.north)) (e -ℤ pos (n * p.east)), from_point (pos (n * p.east)) (pos (n * p.north)) (pos (n * q.east)) (pos (n * q.north)) e d)
    at (times_nonneg n _ l))

moved : (a b e : ℤ) → a -ℤ e -ℤ (b -ℤ e) ≡ a -ℤ b
moved = undiff _ (λ a a'. undiff _ (λ b b'. undiff _ (λ e e'. simp diff (⊖-eq _ _ _ _ (omega arith)))))

twice : (n a b c d e f : ℤ) → n *ℤ (n *ℤ ((c -ℤ a) *ℤ (f -ℤ b) -ℤ (d -ℤ b) *ℤ (e -ℤ a))) ≡ (n *ℤ c -ℤ n *ℤ a) *ℤ (n *ℤ f -ℤ n *ℤ b) -ℤ (n *ℤ d -ℤ n *ℤ b) *ℤ (n *ℤ e -ℤ n *ℤ a)
twice n a b c d e f = simp ring

turn_bend : (p q r : Point) (n : ℕ) (e d : ℤ) → 1 ≤ n → pos 0 <ℤ turn p q 1 (pos r.east) (pos r.north)
    → Bend (pos (n * p.east) -ℤ e) (pos (n * p.north) -ℤ d) (pos (n * q.east) -ℤ e) (pos (n * q.north) -ℤ d) (pos (n * r.east) -ℤ e) (pos (n * r.north) -ℤ d)
turn_bend p q r n e d h l =
    rw (moved (pos (n * q.east)) (pos (n * p.east)) e, moved (pos (n * r.north)) (pos (n * p.north)) d, moved (pos (n * q.north)) (pos (n * p.north)) d, moved (pos (n * r.east)) (pos (n * p.east)) e)
    (rw (twice (pos n) (pos p.east) (pos p.north) (pos q.east) (pos q.north) (pos r.east) (pos r.north))
    at (times_pos n _ h (times_pos n _ h (rw (turn_one p q (pos r.east) (pos r.north)) at l))))

-- along a coordinate, the corners lie neither all beyond the place nor all before it
pub record Encloses (c : Point → ℕ) (ps : List Point) (n : ℕ) (z : ℤ) : Type 0 where
  after : ((k : ℕ) → k < length ps → z <ℤ pos (n * c (corner_at ps k))) → ⊥
  before : ((k : ℕ) → k < length ps → pos (n * c (corner_at ps k)) <ℤ z) → ⊥

gap_lt : (x y : ℤ) → y <ℤ x → pos 0 <ℤ (x -ℤ y)
gap_lt = undiff _ (λ a a'. undiff _ (λ b b'. simp diff (λ h. ⊖-lt _ _ _ _ (omega (arith, lt-⊖ _ _ _ _ h)))))

neg_gap_lt : (x y : ℤ) → x <ℤ y → pos 0 <ℤ neg_ℤ (x -ℤ y)
neg_gap_lt = undiff _ (λ a a'. undiff _ (λ b b'. simp diff (λ h. ⊖-lt _ _ _ _ (omega (arith, lt-⊖ _ _ _ _ h)))))

module _ (ps : List Point) (n : ℕ) (e d : ℤ) (whole : 1 ≤ n) (solid : Solid ps) (covers : Covers ps n e d) where
  abbrev east : ℕ → ℤ
  east k = pos (n * (corner_at ps k).east) -ℤ e

  abbrev north : ℕ → ℤ
  north k = pos (n * (corner_at ps k).north) -ℤ d

  abbrev west : ℕ → ℤ
  west k = neg_ℤ (east k)

  abbrev south : ℕ → ℤ
  south k = neg_ℤ (north k)

  round : Round ps east north
  unfolding side_turn
  round =
      let one : next_corner ps 0 ≡ 1 = mod-eq_of_lt (omega (arith, solid.three)) in
      record {
        three = solid.three;
        steps = λ k h. turn_ahead (corner_at ps k) (corner_at ps (next_corner ps k)) n e d (covers.left k h);
        bend = turn_bend (corner_at ps 0) (corner_at ps 1) (corner_at ps 2) n e d whole (rw one at solid.turns);
      }

  first : Round ps north west
  first = quarter ps east north round

  second : Round ps west south
  second = quarter ps north west first

  third : Round ps south (λ k. neg_ℤ (west k))
  third = quarter ps west south second

  pub encloses_east : Encloses (λ p. p.east) ps n e
  encloses_east =
      record {
        after = λ f. one_sided ps east north round (λ k h. gap_lt _ _ (f k h));
        before = λ f. one_sided ps west south second (λ k h. neg_gap_lt _ _ (f k h));
      }

  pub encloses_north : Encloses (λ p. p.north) ps n d
  encloses_north =
      record {
        after = λ f. one_sided ps north west first (λ k h. gap_lt _ _ (f k h));
        before = λ f. one_sided ps south (λ k. neg_ℤ (west k)) third (λ k h. neg_gap_lt _ _ (f k h));
      }

-- ---- two polygons with a limit between them
below : (a b : ℕ) (z : ℤ) → a ≤ b → pos b <ℤ z → pos a <ℤ z
below a b z h = undiff (λ z. pos b <ℤ z → pos a <ℤ z) (λ c c'. simp diff (λ l. ⊖-lt _ _ _ _ (omega (arith, lt-⊖ _ _ _ _ l)))) z

above : (a b : ℕ) (z : ℤ) → a < b → z ≤ℤ pos a → z <ℤ pos b
above a b z h = undiff (λ z. z ≤ℤ pos a → z <ℤ pos b) (λ c c'. simp diff (λ l. ⊖-lt _ _ _ _ (omega (arith, le-⊖ _ _ _ _ l)))) z

pub divided : (c : Point → ℕ) (ps qs : List Point) (v n : ℕ) (z : ℤ) → 1 ≤ n → ((k : ℕ) → k < length ps → c (corner_at ps k) ≤ v) → ((k : ℕ) → k < length qs → v < c (corner_at qs k))
    → Encloses c ps n z → Encloses c qs n z → ⊥
divided c ps qs v n z h f g a b =
    ⊎_elim
    (λ l. a.before (λ k i. below _ (n * v) z (mul-le-mul_left n (f k i)) l))
    (λ l. b.after (λ k i. above (n * v) _ z (mul-lt-mul_of_pos_left (g k i) h) l))
    (below_or_not (pos (n * v)) z)
