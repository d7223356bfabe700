-- Words of 64 bits that stand for corners: the present ones, and those left of a side.
use Rattle.std.specs.Prelude.{◌≡◌, true, List, ℕ, ◌+◌, ◌*◌, ◌/◌, ◌%◌, ◌<◌, ◌≤◌, length}
use Rattle.geometry.specs.Words.{word}
use Rattle.bits.specs.inner.Bits.{bit}
use Rattle.tables.specs.Tables.{is_corner}
use Rattle.adjacency.specs.inner.Adjacent.{Shows}

-- r has the lowest n bits of w
pub record LowBits (w n r : ℕ) : Type 0 where
  pub same : (i : ℕ) → i < n → bit i r ≡ bit i w
  pub clear : (i : ℕ) → n ≤ i → bit i r ≡ 0

-- u is a present corner below v
pub record Lower (blocks : List ℕ) (v u : ℕ) : Type 0 where
  pub corner : is_corner blocks u ≡ true
  pub below : u < v

-- the three words have the bits of the present corners
pub record CornersOf (blocks corners : List ℕ) (n : ℕ) : Type 0 where
  pub sized : length corners ≡ 3
  pub each : (q : ℕ) → q < n → (i : ℕ) → i < 64 → Shows (is_corner blocks (64 * q + i) ≡ true) (bit i (word corners q))

-- a corner whose bit is clear in word 3 b + q is not strictly left of side b of the block that the codes are against
pub record Lefts (codes lefts : List ℕ) (n : ℕ) : Type 0 where
  pub sized : length lefts ≡ 24
  pub each : (k : ℕ) → k < n → (i : ℕ) → i < 64 → bit i (word lefts k) ≡ 0 → bit (k / 3) (word codes (64 * (k % 3) + i)) ≡ 1

-- r has those bits of w that are in every one of the words 3 b + q, for the set bits b of c
pub record OpenWord (lefts : List ℕ) (c q w r : ℕ) : Type 0 where
  pub only : (i : ℕ) → bit i r ≡ 1 → bit i w ≡ 1
  pub rest : (i : ℕ) → bit i w ≡ 1 → bit i r ≡ 0 → (b : ℕ) × (b < 8) × (bit b c ≡ 1) × (bit i (word lefts (3 * b + q)) ≡ 0)
