-- What the tests of a straight answer.
use mathlib.Core.Path.{◌≡◌, sym, ◌∙◌, subst}
use mathlib.Core.Logic.{⊎_elim}
use mathlib.Core.List.{List}
use mathlib.Core.Bool.{Bool, true, false, true≢false}
use Prim.Native.Nat.{ℕ, ◌+◌, ◌*◌, ◌/◌, ◌%◌, ◌<◌, ◌≤◌}
use native.Mathlib.Omega.{arith}
use lib.IntN.{pos}
use lib.Signed.{◌<ℤ◌}
use Rattle.lists.specs.inner.Tells.{Tells}
use Rattle.lists.proofs.Telling.{tells_yes, tells_no}
use Rattle.geometry.specs.Words.{Point, point, word, block_words, corners}
use Rattle.geometry.specs.Obstruction.{corner_at, side_turn, Obstructs, Hidden}
use Rattle.geometry.specs.Convexity.{convex}
use Rattle.geometry.proofs.Corners.{places_length, corner_is, corner_read}
use Rattle.geometry.proofs.Obstructing.{hidden_sym}
use Rattle.geometry.proofs.Searching.{block_word, part, part_is}
use Rattle.tables.specs.Tables.{Records, stored, place_of}
use Rattle.tables.proofs.Marks.{corner_place}
use Rattle.visibility.specs.Visibility.{ByPlaces, PairIs, absent, clear, seam, hidden}
use Rattle.sight.specs.inner.Diagonals.{Crosses}
use Rattle.sight.proofs.Cones.{next_is, enters_cone}
use Rattle.sight.proofs.Diagonals.{Diagonal, diagonal_sym, crosses_hides}

-- a block record whose sides at corner k both have b on their left
pub enters_record : (ws : List ℕ) (k j : ℕ) (b : Point) → convex (corners ws) ≡ true → k < word ws 0 → j < word ws 0 → (j + 1) % word ws 0 ≡ k
    → pos 0 <ℤ side_turn (corners ws) b k → pos 0 <ℤ side_turn (corners ws) b j → Obstructs (corners ws) (corner_at (corners ws) k) b
enters_record ws k j b c h l e s t =
    let m = places_length ws 1 (word ws 0) in
    enters_cone (corners ws) k j b c (rw m h) (rw m l) (rw m e) s t

-- the same of mark v and its block
module _ (blocks runs : List ℕ) (v : ℕ) (h : v < 192) where
  corner_mark_lem : v % 8 < word (block_words blocks (v / 8)) 0 → corner_at (corners (block_words blocks (v / 8))) (v % 8) ≡ place_of (stored blocks runs) v
  corner_mark_lem l =
      let n = v / 8 in
      let k = v % 8 in
      let e : 17 * n + (2 * k + 1) ≡ 17 * n + 1 + 2 * k = omega arith in
      let f : 17 * n + (2 * k + 2) ≡ 17 * n + 1 + 2 * k + 1 = omega arith in
      let p : word (block_words blocks n) (2 * k + 1) ≡ word blocks (17 * n + 1 + 2 * k) = rw (sym e) (block_word blocks n (2 * k + 1) (omega arith)) in
      let q : word (block_words blocks n) (2 * k + 2) ≡ word blocks (17 * n + 1 + 2 * k + 1) = rw (sym f) (block_word blocks n (2 * k + 2) (omega arith)) in
      corner_is (block_words blocks n) k l ∙ (λ i. point (p i) (q i)) ∙ corner_place blocks runs v h

  pub own_hides : (b : Point) → v % 8 < word (part blocks (v / 8)) 0 → Obstructs (corners (part blocks (v / 8))) (corner_at (corners (part blocks (v / 8))) (v % 8)) b
      → Hidden blocks (v / 8) (place_of (stored blocks runs) v) b
  own_hides b l o =
      let e = part_is blocks (v / 8) in
      let m : v % 8 < word (block_words blocks (v / 8)) 0 = rw e at l in
      let p : Obstructs (corners (block_words blocks (v / 8))) (corner_at (corners (block_words blocks (v / 8))) (v % 8)) b = rw e at o in
      record {
        stands = omega arith;
        across = subst (λ (a : Point). Obstructs (corners (block_words blocks (v / 8))) a b) (corner_mark_lem m) p;
      }

-- corners i and j of a block record, with one between them either way round
apart_corners : (i j m : ℕ) → j < m → i + 2 ≤ j → j + 2 ≤ i + m → (j ≡ (i + 1) % m → ⊥) × (i ≡ (j + 1) % m → ⊥)
apart_corners i j m l f g = (
  λ e. ⊎_elim (λ s. omega (arith, e, s)) (λ s. omega (arith, e, s.0)) (next_is i m (omega arith)),
  λ e. ⊎_elim (λ s. omega (arith, e, s)) (λ s. omega (arith, e, s.0, s.1)) (next_is j m l),
)

module _ (ws : List ℕ) (i j : ℕ) (c : convex (corners ws) ≡ true) (l : j < word ws 0) (f : i + 2 ≤ j) (g : j + 2 ≤ i + word ws 0) where
  two_corners : Diagonal (corners ws) i j
  two_corners =
      let m = places_length ws 1 (word ws 0) in
      let s = apart_corners i j (word ws 0) l f g in
      record {
        first = rw m (omega arith);
        second = rw m l;
        distinct = λ e. omega (arith, e);
        after = rw m s.0;
        before = rw m s.1;
      }

  module _ (p q a b : Point) (pe : p.east ≡ word ws (2 * i + 1)) (pn : p.north ≡ word ws (2 * i + 2)) (qe : q.east ≡ word ws (2 * j + 1)) (qn : q.north ≡ word ws (2 * j + 2)) where
    pub one_way : Crosses p q a b → Obstructs (corners ws) a b
    one_way x =
        let P = corner_read ws p i (omega arith) pe pn in
        let Q = corner_read ws q j l qe qn in
        crosses_hides (corners ws) i j a b c two_corners (rw (P, Q) at x)

    pub other_way : Crosses q p a b → Obstructs (corners ws) a b
    other_way x =
        let P = corner_read ws p i (omega arith) pe pn in
        let Q = corner_read ws q j l qe qn in
        crosses_hides (corners ws) j i a b c (diagonal_sym two_corners) (rw (P, Q) at x)

-- a block that hides the straight of two marks, found in each of three ways
module _ (R : Records) (v u : ℕ) (t : Bool) where
  pub unseen_first : (b : Point) → b ≡ place_of R u → (t ≡ true → (v < 192) × Hidden R.blocks (v / 8) (place_of R v) b) → t ≡ true → Tells (ByPlaces R v u) false
  unseen_first b e f g = tells_no (λ s. s.1.seen (v / 8) (omega (arith, (f g).0)) (rw e at (f g).1))

  pub unseen_second : (a : Point) → a ≡ place_of R v → (t ≡ true → (u < 192) × Hidden R.blocks (u / 8) (place_of R u) a) → t ≡ true → Tells (ByPlaces R v u) false
  unseen_second a e f g =
      tells_no (λ s. s.1.seen (u / 8) (omega (arith, (f g).0)) (hidden_sym R.blocks (u / 8) (place_of R u) (place_of R v) (rw e at (f g).1)))

-- the byte of the straight
pub seen_byte : (R : Records) (v u byte : ℕ) → PairIs R v u byte → byte ≡ 254 → Tells (ByPlaces R v u) true
seen_byte R v u byte (absent f e) q = absurd (omega arith)
seen_byte R v u byte (clear t c e) q = tells_yes (t, c)
seen_byte R v u byte (seam t c e) q = absurd (omega arith)
seen_byte R v u byte (hidden t l h f) q = absurd (omega arith)

pub unseen_byte : (R : Records) (v u byte : ℕ) → PairIs R v u byte → (byte ≡ 254 → ⊥) → Tells (ByPlaces R v u) false
unseen_byte R v u byte (absent f e) q = tells_no (λ s. true≢false (sym s.0 ∙ f))
unseen_byte R v u byte (clear t c e) q = absurd (q e)
unseen_byte R v u byte (seam t c e) q = tells_no (λ s. s.1.unshared c.shared)
unseen_byte R v u byte (hidden t l h f) q = tells_no (λ s. s.1.seen byte l h)
