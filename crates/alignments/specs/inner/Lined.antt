-- Which blocks have a side in line with a mark, and which the mark belongs to.
use Rattle.std.specs.Prelude.{◌≡◌, Bool, true, false, ◌⊎◌, List, ℕ, ◌+◌, ◌%◌, ◌<◌, ◌≤◌, pos, ◌<ℤ◌, ◌≤ℤ◌, length}
use Rattle.bits.specs.inner.Bits.{bit}
use Rattle.geometry.specs.Words.{Point, word, block_words, corners}
use Rattle.geometry.specs.Obstruction.{side_turn}
use Rattle.code_table.specs.inner.Lines.{mark_at}

-- the place is on the line of no side of the record from side k on
abbrev pub OffFrom : List ℕ → Point → ℕ → Type 0
OffFrom ws p k = (t : ℕ) → k ≤ t → t < word ws 0 → side_turn (corners ws) p t ≡ pos 0 → ⊥

-- it is strictly right of some such side
pub record RightFrom (ws : List ℕ) (p : Point) (k : ℕ) : Type 0 where
  pub side : ℕ
  pub after : k ≤ side
  pub before : side < word ws 0
  pub right : side_turn (corners ws) p side <ℤ pos 0

-- it is on no side of the block of the record: where it is on the line of one, it is strictly right of another
abbrev pub Unheld : List ℕ → Point → Type 0
Unheld ws p = (t : ℕ) → t < word ws 0 → side_turn (corners ws) p t ≡ pos 0 → ((s : ℕ) → s < word ws 0 → pos 0 ≤ℤ side_turn (corners ws) p s) → ⊥

-- a mark's byte r after one side more: bit 0 where the mark is on its line, bit 1 where it is strictly right of it
pub record Marked (old : ℕ) (on right : Bool) (r : ℕ) : Type 0 where
  pub line : r % 2 ≡ 0 → (old % 2 ≡ 0) × (on ≡ false)
  pub beyond : 2 ≤ r → (2 ≤ old) ⊎ (right ≡ true)

-- a byte of the sides from k on: even only where the place is on no line of them, 2 or more only where it is strictly right of one
pub record SidesByte (ws : List ℕ) (p : Point) (k b : ℕ) : Type 0 where
  pub line : b % 2 ≡ 0 → OffFrom ws p k
  pub beyond : 2 ≤ b → RightFrom ws p k

-- a byte for each mark: all 0; those of the sides from k on
pub record Blank (row : List ℕ) : Type 0 where
  pub sized : length row ≡ 240
  pub each : (i : ℕ) → i < 240 → word row i ≡ 0

pub record SidesRow (ws east north : List ℕ) (k : ℕ) (row : List ℕ) : Type 0 where
  pub sized : length row ≡ 240
  pub each : (i : ℕ) → i < 240 → SidesByte ws (mark_at east north i) k (word row i)

-- r is c with bit n set where b is odd and bit n + 24 set where b is 1, and no other bit is lost
pub record PackedBoth (c n b r : ℕ) : Type 0 where
  pub line : bit n r ≡ 0 → b % 2 ≡ 0
  pub held : bit (n + 24) r ≡ 0 → b ≡ 1 → ⊥
  pub kept : (m : ℕ) → bit m r ≡ 0 → bit m c ≡ 0

-- so are the words of the first i marks
pub record PackedTo (row : List ℕ) (n : ℕ) (old new : List ℕ) (i : ℕ) : Type 0 where
  pub sized : length new ≡ 240
  pub past : (j : ℕ) → j < i → PackedBoth (word old j) n (word row j) (word new j)
  pub rest : (j : ℕ) → i ≤ j → word new j ≡ word old j

-- what bits n and n + 24 of a mark's word say of block n, whose record and mask are ws and mask: where the mask is not 0, bit n is 0 only where the mark is on no line of the block, bit n + 24 only where it is on no side of it
pub record WordSays (ws : List ℕ) (p : Point) (mask n w : ℕ) : Type 0 where
  pub line : bit n w ≡ 0 → (mask ≡ 0) ⊎ OffFrom ws p 0
  pub held : bit (n + 24) w ≡ 0 → (mask ≡ 0) ⊎ Unheld ws p

-- a word for each mark
pub record LinesOf (blocks east north masks lines : List ℕ) (top : ℕ) : Type 0 where
  pub sized : length lines ≡ 240
  pub each : (n i : ℕ) → n < top → i < 240 → WordSays (block_words blocks n) (mark_at east north i) (word masks n) n (word lines i)
