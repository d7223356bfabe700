-- Rows of three words for each mark, mirrored from the lower marks to the higher ones.
use Rattle.std.specs.Prelude.{◌≡◌, List, ℕ, ◌+◌, ◌*◌, ◌/◌, ◌%◌, ◌<◌, length}
use Rattle.geometry.specs.Words.{word}
use Rattle.bits.specs.inner.Bits.{bit}
use Rattle.adjacency.specs.inner.Adjacent.{near_bit}

-- every set bit of the rows is that of a lower mark
pub record LowerOnly (rows : List ℕ) : Type 0 where
  pub sized : length rows ≡ 720
  pub each : (v u : ℕ) → v < 240 → u < 192 → near_bit rows v u ≡ 1 → u < v

-- the rows with each bit of a corner's row set in the row of the corner that it stands for too
pub record Mirrored (old new : List ℕ) : Type 0 where
  pub sized : length new ≡ 720
  pub kept : (v u : ℕ) → v < 240 → u < v → u < 192 → near_bit new v u ≡ near_bit old v u
  pub turned : (v u : ℕ) → v < 192 → u < v → near_bit new u v ≡ near_bit old v u
  pub own : (v : ℕ) → v < 192 → near_bit new v v ≡ 0

-- the mark of word k is entered in the row of each corner of the word, and all else is as it was
pub record TurnedWord (old new : List ℕ) (k : ℕ) : Type 0 where
  pub sized : length new ≡ 720
  pub turned : (i : ℕ) → i < 64 → bit i (word old k) ≡ 1 → near_bit new (64 * (k % 3) + i) (k / 3) ≡ 1
  pub rest : (x y : ℕ) → y < 192 → (y ≡ k / 3 → x / 64 ≡ k % 3 → bit (x % 64) (word old k) ≡ 1 → ⊥) → near_bit new x y ≡ near_bit old x y
