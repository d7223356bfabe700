-- How large the words of the tables and the coordinates of places are, so that no product of turns leaves 64 bits.
use Rattle.std.specs.Prelude.{◌≡◌, List, ℕ, ◌*◌, ◌<◌, ◌≤◌, length}
use Rattle.geometry.specs.Words.{Point, word}

-- what the tests of one block ask of its record
pub record BoundedRecord (ws : List ℕ) : Type 0 where
  pub sized : length ws ≡ 17
  pub count : word ws 0 ≤ 8
  pub coordinates : (i : ℕ) → i < 17 → word ws i ≤ 32767

-- what the search for a hiding block asks of the block table; question 2 ensures it
pub record Bounded (blocks : List ℕ) : Type 0 where
  pub sized : length blocks ≡ 408
  pub counts : (n : ℕ) → n < 24 → word blocks (17 * n) ≤ 8
  pub coordinates : (i : ℕ) → i < 408 → word blocks i ≤ 32767

-- both coordinates are at most 32,767, so that no product of turns leaves 64 bits
pub record InRange (p : Point) : Type 0 where
  pub east : p.east ≤ 32767
  pub north : p.north ≤ 32767
