-- Which corners a mark has a clear straight to.
use Rattle.std.specs.Prelude.{◌≡◌, Bool, true, false, List, ℕ, ◌+◌, ◌*◌, ◌/◌, ◌%◌, ◌<◌, ◌≤◌, min, max, length}
use Rattle.geometry.specs.Words.{word}
use Rattle.bits.specs.inner.Bits.{bit}
use Rattle.tables.specs.Tables.{is_corner, pair_index, pair_byte}

-- corner u is present, and its straight to another mark v is clear, by any notion of clear
pub record AdjacentBy (blocks : List ℕ) (Clear : ℕ → ℕ → Type 0) (v u : ℕ) : Type 0 where
  pub present : is_corner blocks u ≡ true
  pub differ : u ≡ v → ⊥
  pub clear : Clear u v

-- the byte of the pair says that it is
abbrev pub Said : List ℕ → ℕ → ℕ → Type 0
Said pairs u v = pair_byte pairs u v ≡ 254

abbrev pub Adjacent : List ℕ → List ℕ → ℕ → ℕ → Type 0
Adjacent blocks pairs = AdjacentBy blocks (Said pairs)

-- a bit says whether
pub record Shows (P : Type 0) (b : ℕ) : Type 0 where
  pub small : b < 2
  pub yes' : b ≡ 1 → P
  pub no' : P → b ≡ 1

-- the first n of so many words say which corners are near: word 3 v + q those from 64 q on that are near mark v
pub record RowsBy (blocks : List ℕ) (Clear : ℕ → ℕ → Type 0) (words : ℕ) (adj : List ℕ) (n : ℕ) : Type 0 where
  pub sized : length adj ≡ words
  pub each : (k : ℕ) → k < n → (i : ℕ) → i < 64 → Shows (AdjacentBy blocks Clear (k / 3) (64 * (k % 3) + i)) (bit i (word adj k))

-- in rows of the corners alone, by the bytes of the pairs
abbrev pub Rows : List ℕ → List ℕ → List ℕ → ℕ → Type 0
Rows blocks pairs = RowsBy blocks (Said pairs) 576

-- bit u of row v
abbrev pub near_bit : List ℕ → ℕ → ℕ → ℕ
near_bit adj v u = bit (u % 64) (word adj (3 * v + u / 64))

-- where the byte of two marks stands
unfoldable pub spot : ℕ → ℕ → ℕ
spot u v = pair_index (min u v) (max u v)

-- the rows say what the first n bytes of the pairs say
pub record Entered (blocks pairs adj : List ℕ) (n : ℕ) : Type 0 where
  pub sized : 576 ≤ length adj
  pub each : (v u : ℕ) → v < 192 → u < 192 → Shows (Adjacent blocks pairs v u × (spot u v < n)) (near_bit adj v u)

-- bit u of row v is set if t, and all else is as it was
pub record Noted (old new : List ℕ) (v u : ℕ) (t : Bool) : Type 0 where
  pub sized : length new ≡ length old
  pub here : t ≡ true → near_bit new v u ≡ 1
  pub unset : t ≡ false → near_bit new v u ≡ near_bit old v u
  pub rest : (w s : ℕ) → w < 192 → s < 192 → ((w ≡ v) × (s ≡ u) → ⊥) → near_bit new w s ≡ near_bit old w s

-- none of the n bytes from a place on says clear
pub record NoneClear (pairs : List ℕ) (at n : ℕ) : Type 0 where
  pub each : (k : ℕ) → k < n → word pairs (at + k) ≡ 254 → ⊥
