-- The corners of a record by its words, and how large a turn against its sides can be.
use mathlib.Core.Path.{◌≡◌, refl, sym, ap, ◌∙◌}
use mathlib.Core.List.{List, [], ◌∷◌, map}
use Prim.Native.Nat.{ℕ, zero, suc, ◌+◌, ◌*◌, ◌%◌, ◌<◌}
use native.Mathlib.Nat.{one-mul, mod-lt}
use native.Mathlib.Omega.{arith}
use lib.Dec.{lit≤}
use lib.IntN.{ℤ, pos, ◌-ℤ◌, ◌*ℤ◌}
use lib.ListN.{length}
use Rattle.geometry.specs.Words.{Point, point, word, place_at, places_from, corners}
use Rattle.geometry.specs.inner.Bounds.{BoundedRecord, InRange}
use Rattle.geometry.specs.Obstruction.{corner_at, next_corner, turn, side_turn}
use Rattle.geometry.specs.inner.Sides.{Within}
use Rattle.geometry.proofs.Bound.{within_gap, within_mul, within_sub}

pub places_length : (t : List ℕ) (i c : ℕ) → length (places_from t i c) ≡ c
unfolding places_from
places_length t i zero = refl
places_length t i (suc c) = ap suc (places_length t (i + 2) c)

pub place_is : (t : List ℕ) (i c k : ℕ) → k < c → corner_at (places_from t i c) k ≡ place_at t (i + 2 * k)
unfolding places_from
place_is t i zero k h = absurd (omega arith)
place_is t i (suc c) zero h = let e : i ≡ i + 2 * 0 = omega arith in ap (place_at t) e
place_is t i (suc c) (suc k) h = let e : i + 2 + 2 * k ≡ i + 2 * suc k = omega arith in place_is t (i + 2) c k (omega arith) ∙ ap (place_at t) e

pub corner_is : (ws : List ℕ) (k : ℕ) → k < word ws 0 → corner_at (corners ws) k ≡ point (word ws (2 * k + 1)) (word ws (2 * k + 2))
corner_is ws k h =
    let e : 1 + 2 * k ≡ 2 * k + 1 = omega arith in
    let f : 2 * k + 1 + 1 ≡ 2 * k + 2 = omega arith in
    place_is ws 1 (word ws 0) k h ∙ ap (place_at ws) e ∙ ap (λ (j : ℕ). point (word ws (2 * k + 1)) (word ws j)) f

pub corner_map : (f : Point → Point) (ps : List Point) (k : ℕ) → k < length ps → corner_at (map f ps) k ≡ f (corner_at ps k)
corner_map f [] k h = absurd (omega arith)
corner_map f (p ∷ ps) zero h = refl
corner_map f (p ∷ ps) (suc k) h = corner_map f ps k (omega arith)

-- a corner that the code read
pub corner_read : (ws : List ℕ) (p : Point) (k : ℕ) → k < word ws 0 → p.east ≡ word ws (2 * k + 1) → p.north ≡ word ws (2 * k + 2) → p ≡ corner_at (corners ws) k
corner_read ws p k h e n = (λ i. point (e i) (n i)) ∙ sym (corner_is ws k h)

-- a turn with its corners not multiplied
pub turn_one : (p q : Point) (e n : ℤ) → turn p q 1 e n
    ≡ (pos q.east -ℤ pos p.east) *ℤ (n -ℤ pos p.north) -ℤ (pos q.north -ℤ pos p.north) *ℤ (e -ℤ pos p.east)
unfolding turn
turn_one p q e n = rw (one-mul p.north, one-mul p.east)

pub turn_small : (p q x : Point) → InRange p → InRange q → InRange x → Within 2147483648 (turn p q 1 (pos x.east) (pos x.north))
turn_small p q x a b c =
    rw (turn_one p q (pos x.east) (pos x.north))
    (within_sub 2147483648
    (within_mul 1073676289 (within_gap 32767 _ _ b.east a.east) (within_gap 32767 _ _ c.north a.north) (lit≤ tt))
    (within_mul 1073676289 (within_gap 32767 _ _ b.north a.north) (within_gap 32767 _ _ c.east a.east) (lit≤ tt))
    (lit≤ tt))

module _ (ws : List ℕ) (b : BoundedRecord ws) where
  pub corner_in_range : (k : ℕ) → k < word ws 0 → InRange (corner_at (corners ws) k)
  corner_in_range k h =
      let c = b.count in
      rw (corner_is ws k h) (record { east = b.coordinates (2 * k + 1) (omega arith); north = b.coordinates (2 * k + 2) (omega arith) })

  pub next_below : (k : ℕ) → k < word ws 0 → next_corner (corners ws) k < word ws 0
  next_below k h = rw (places_length ws 1 (word ws 0)) (mod-lt (k + 1) (omega arith))

  pub side_small : (x : Point) (k : ℕ) → InRange x → k < word ws 0 → Within 2147483648 (side_turn (corners ws) x k)
  unfolding side_turn
  side_small x k n h = turn_small _ _ x (corner_in_range k h) (corner_in_range (next_corner (corners ws) k) (next_below k h)) n

-- the turn that the code works out from two corners that it read
pub side_is : (ws : List ℕ) (p q x : Point) (k j : ℕ) → k < word ws 0 → j < word ws 0 → j ≡ (k + 1) % word ws 0
    → p.east ≡ word ws (2 * k + 1) → p.north ≡ word ws (2 * k + 2) → q.east ≡ word ws (2 * j + 1) → q.north ≡ word ws (2 * j + 2)
    → turn p q 1 (pos x.east) (pos x.north) ≡ side_turn (corners ws) x k
unfolding side_turn
side_is ws p q x k j h l e pe pn qe qn =
    let P = corner_read ws p k h pe pn in
    let n : j ≡ next_corner (corners ws) k = e ∙ ap (λ (c : ℕ). (k + 1) % c) (sym (places_length ws 1 (word ws 0))) in
    let Q : q ≡ corner_at (corners ws) (next_corner (corners ws) k) = corner_read ws q j l qe qn ∙ ap (corner_at (corners ws)) n in
    λ i. turn (P i) (Q i) 1 (pos x.east) (pos x.north)
