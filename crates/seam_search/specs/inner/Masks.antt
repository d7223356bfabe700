-- Which blocks may share a place with which, as bits, and the blocks that a segment may touch.
use Rattle.std.specs.Prelude.{◌≡◌, List, ◌⊎◌, ℕ, ◌+◌, ◌<◌, ◌≤◌, ℤ, length}
use Rattle.geometry.specs.Words.{Point, word, block_words}
use Rattle.bits.specs.inner.Bits.{bit}
use Rattle.seams.specs.inner.Reach.{Touched, Meeting, SharedBy}
use Rattle.neighbours.specs.inner.Rectangles.{Parted, Lows, Highs}
use Rattle.seam_search.specs.declared.Boxes.{Boxes}

-- the least and the greatest coordinates of every block
pub record Boxed (blocks : List ℕ) (boxes : Boxes) : Type 0 where
  pub wests : Lows blocks 1 boxes.west
  pub easts : Highs blocks 1 boxes.east
  pub souths : Lows blocks 2 boxes.south
  pub norths : Highs blocks 2 boxes.north

-- one of two blocks ends below the other along a coordinate
abbrev pub Divided : List ℕ → List ℕ → ℕ → ℕ → Type 0
Divided lows highs p q = (word highs p < word lows q) ⊎ (word highs q < word lows p)

-- bit q of w is 0 only where blocks p and q are one block or share no place
pub record Mask (blocks : List ℕ) (p w : ℕ) : Type 0 where
  pub each : (q : ℕ) → q < 24 → bit q w ≡ 0 → Parted blocks p q

-- bit q of word p is 0 only where blocks p and q are one block or share no place
pub record Masks (blocks masks : List ℕ) : Type 0 where
  pub sized : length masks ≡ 24
  pub each : (p q : ℕ) → p < 24 → q < 24 → bit q (word masks p) ≡ 0 → Parted blocks p q

-- no bit of `touched` is missing: a block that is not in it has no place of the segment, or shares none with another
pub record TouchedIn (blocks masks : List ℕ) (a b : Point) (touched : ℕ) : Type 0 where
  pub each : (n : ℕ) → n < 24 → bit n touched ≡ 0 → (word masks n ≡ 0) ⊎ ((u s : ℕ) → 1 ≤ u + s → Touched (block_words blocks n) a b u s → ⊥)

-- each set bit of w is the number of a block
pub record Numbers (w : ℕ) : Type 0 where
  pub each : (k : ℕ) → bit k w ≡ 1 → k < 24

-- and above p
pub record Later (p w : ℕ) : Type 0 where
  pub after : (k : ℕ) → bit k w ≡ 1 → p < k
  pub numbers : Numbers w

-- some point that is on the inner side of both kept sides belongs to a block whose bit is set
pub record JoinedAmong (blocks : List ℕ) (w : ℕ) (a b : Point) (l r p q : ℤ) : Type 0 where
  pub k : ℕ
  pub marked : bit k w ≡ 1
  pub met : Meeting (block_words blocks k) a b l r p q

-- some point of the segment belongs both to block p and to a later one whose bit is set in both words
pub record SharedAfter (blocks : List ℕ) (mask touched p : ℕ) (a b : Point) : Type 0 where
  pub q : ℕ
  pub later : p < q
  pub masked : bit q mask ≡ 1
  pub marked : bit q touched ≡ 1
  pub shared : SharedBy blocks p q a b
