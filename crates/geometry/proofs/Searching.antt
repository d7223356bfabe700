-- The search for the lowest block that hides a segment: what is known of one block after k of its sides, and of the blocks passed.
use mathlib.Core.Path.{◌≡◌, refl, ap, ◌∙◌, subst}
use mathlib.Core.Bool.{Bool}
use mathlib.Core.List.{List}
use Prim.Native.Nat.{ℕ, ◌+◌, ◌-◌, ◌*◌, ◌<◌, ◌≤◌}
use native.Mathlib.Decide.{dec_lt}
use native.Mathlib.Numerals.{add-one}
use native.Mathlib.Omega.{arith}
use lib.Dec.{lit≤}
use lib.IntN.{ℤ, pos}
use lib.Signed.{◌≤ℤ◌}
use lib.ListN.{take, drop, length-take, length-drop}
use Rattle.std.specs.Prelude.{Option, Some, None}
use lib.Seq.{get_or-take, get_or-drop}
use Rattle.geometry.specs.Words.{Point, word, block_words, corners}
use Rattle.geometry.specs.inner.Bounds.{BoundedRecord, Bounded}
use Rattle.geometry.specs.Obstruction.{side_turn, Obstructs, Hidden}
use Rattle.lists.specs.inner.Tells.{Tells}
use Rattle.lists.proofs.Telling.{tells_as}
use Rattle.geometry.specs.Overlap.{Overlaps}
use Rattle.geometry.specs.inner.Overlapping.{FirstIs, FirstOverlapping}
use Rattle.geometry.specs.inner.Sides.{Enters, Span, Small, Narrowed, Meets}
use Rattle.geometry.proofs.Bound.{within_pos}
use Rattle.geometry.proofs.Sides.{span_none, not_entered, meets_enters, enters_meets}
use Rattle.geometry.proofs.Corners.{places_length}
use Rattle.geometry.proofs.Obstructing.{by_turns, of_turns}
use Rattle.geometry.proofs.Overlapping.{hidden_overlaps}

pub block_word : (t : List ℕ) (n k : ℕ) → k < 17 → word (block_words t n) k ≡ word t (17 * n + k)
block_word t n k h = get_or-take 17 (drop (17 * n) t) k 0 h ∙ get_or-drop (17 * n) t k 0

pub part_is : (t : List ℕ) (n : ℕ) → take ((17 * n + 17) - 17 * n) (drop (17 * n) t) ≡ block_words t n
part_is t n = let e : (17 * n + 17) - 17 * n ≡ 17 = omega arith in ap (λ (k : ℕ). take k (drop (17 * n) t)) e

pub record_bounded : (t : List ℕ) (n : ℕ) → Bounded t → n < 24 → BoundedRecord (block_words t n)
record_bounded t n b h =
    record {
      sized = simp (length-take, length-drop) (omega (arith, b.sized));
      count = let e : 17 * n + 0 ≡ 17 * n = omega arith in rw (block_word t n 0 (lit≤ tt), e) (b.counts n h);
      coordinates = λ i l. rw (block_word t n i l) (b.coordinates (17 * n + i) (omega arith));
    }

-- the same of the part of the table that the code hands over
abbrev pub part : List ℕ → ℕ → List ℕ
part t n = take ((17 * n + 17) - 17 * n) (drop (17 * n) t)

pub part_bounded : (t : List ℕ) (n : ℕ) → Bounded t → n < 24 → BoundedRecord (part t n)
part_bounded t n b h = rw (part_is t n) (record_bounded t n b h)

-- the block's turns, of both ends
module _ (ws : List ℕ) (a b : Point) where
  abbrev pub Entered : Type 0
  Entered = Enters (word ws 0) (side_turn (corners ws) a) (side_turn (corners ws) b)

  abbrev pub Hiding : Type 0
  Hiding = (0 < word ws 0) × Obstructs (corners ws) a b

  pub hiding : 0 < word ws 0 → Entered → Hiding
  hiding h i = (h, of_turns (corners ws) a b (rw (places_length ws 1 (word ws 0)) i))

  pub entered : Hiding → Entered
  entered h = rw (places_length ws 1 (word ws 0)) at (by_turns (corners ws) a b h.1)

  -- k sides are passed
  pub record Passed (l r p q : ℤ) (k : ℕ) : Type 0 where
    pub small : Small l r p q
    pub span : Span k (side_turn (corners ws) a) (side_turn (corners ws) b) l r p q

  pub passed_none : Passed (pos 1) (pos 1) (pos 1) (pos 1) 0
  passed_none =
      record {
        small = record { small_l = within_pos (lit≤ tt); small_r = within_pos (lit≤ tt); small_p = within_pos (lit≤ tt); small_q = within_pos (lit≤ tt) };
        span = span_none _ _;
      }

  pub passed_next : {k : ℕ} {l r p q x y l' r' p' q' : ℤ} → Passed l r p q k → side_turn (corners ws) a k ≡ x → side_turn (corners ws) b k ≡ y
      → Narrowed l r p q x y l' r' p' q' → Passed l' r' p' q' (k + 1)
  passed_next {k} g ex ey m = record { small = m.small; span = rw add-one (m.span k _ _ ex ey g.span) }

  -- a side with both turns at most 0
  pub passed_shut : {k : ℕ} {x y : ℤ} → k < word ws 0 → side_turn (corners ws) a k ≡ x → side_turn (corners ws) b k ≡ y
      → (x ≤ℤ pos 0) × (y ≤ℤ pos 0) → Hiding → ⊥
  passed_shut {k} h ex ey s d = not_entered (word ws 0) _ _ k h (rw ex s.0) (rw ey s.1) (entered d)

  -- every side is passed
  pub passed_all : {k : ℕ} {l r p q : ℤ} {t : Bool} → Passed l r p q k → k ≡ word ws 0 → 0 < word ws 0 → Tells (Meets l r p q) t → Tells Hiding t
  passed_all {k} {l} {r} {p} {q} g e o =
      let s : Span (word ws 0) (side_turn (corners ws) a) (side_turn (corners ws) b) l r p q = rw e at g.span in
      tells_as (λ m. hiding o (meets_enters _ _ _ s m)) (λ d. enters_meets _ _ _ s (entered d))

-- the same of block n
module _ (blocks : List ℕ) (n : ℕ) (a b : Point) where
  pub hidden_by_lem : Hiding (block_words blocks n) a b → Hidden blocks n a b
  hidden_by_lem h = record { stands = h.0; across = h.1 }

  pub tells_hidden : {t : Bool} → Tells (Hiding (part blocks n) a b) t → Tells (Hidden blocks n a b) t
  tells_hidden h = tells_as hidden_by_lem (λ d. (d.stands, d.across)) (rw (part_is blocks n) at h)

-- one block more that does not hide
pub none_more : (P : ℕ → Type 0) (from n : ℕ) → ((k : ℕ) → from ≤ k → k < n → P k → ⊥) → (P n → ⊥) → (k : ℕ) → from ≤ k → k < n + 1 → P k → ⊥
none_more P from n f g k lo hi h = go (dec_lt k n)
  where
    go : Dec (k < n) → ⊥
    go (yes l) = f k lo l h
    go (no l) = let e : k ≡ n = omega arith in g (subst P e h)

-- the blocks that the search passes because they do not overlap
pub passed_over : (blocks : List ℕ) (a b : Point) (from to : ℕ) → ((k : ℕ) → from ≤ k → k < to → Overlaps (corners (block_words blocks k)) a b → ⊥)
    → (k : ℕ) → from ≤ k → k < to → Hidden blocks k a b → ⊥
passed_over blocks a b from to f k lo hi h = f k lo hi (hidden_overlaps blocks k a b h)

pub none_between : (P : ℕ → Type 0) (from l n : ℕ) → ((k : ℕ) → from ≤ k → k < l → P k → ⊥) → ((k : ℕ) → l ≤ k → k < n → P k → ⊥) → (k : ℕ) → from ≤ k → k < n → P k → ⊥
none_between P from l n f g k lo hi h = elim (dec_lt k l) [ yes r ↦ f k lo r h | no r ↦ g k (omega arith) hi h ]

-- the promise determines the answer
first_below : {blocks : List ℕ} {from to : ℕ} {a b : Point} {n m : ℕ} → FirstIs blocks from to a b n → FirstIs blocks from to a b m → n < m → ⊥
first_below {n} f g l = g.passed n f.after l f.found

pub first_unique : (blocks : List ℕ) (from to : ℕ) (a b : Point) (n m : Option ℕ) → FirstOverlapping blocks from to a b n → FirstOverlapping blocks from to a b m → n ≡ m
first_unique blocks from to a b (Some n) (Some m) f g =
    elim (dec_lt n m) [
      | yes l ↦ absurd (first_below f g l)
      | no l ↦ elim (dec_lt m n) [ yes r ↦ absurd (first_below g f r) | no r ↦ ap Some (omega arith) ]
    ]
first_unique blocks from to a b (Some n) None f g = absurd (g n f.after f.before f.found)
first_unique blocks from to a b None (Some m) f g = absurd (f m g.after g.before g.found)
first_unique blocks from to a b None None f g = refl
