-- Rows of bits as a search reads them: which corners are near each mark, and what two ends see of each other.
use Rattle.std.specs.Prelude.{◌≡◌, Bool, true, cond, List, ℕ, ◌+◌, ◌*◌, ◌<◌, ltb, length}
use Rattle.geometry.specs.Words.{word}
use Rattle.tables.specs.Tables.{is_corner}
use Rattle.adjacency.specs.inner.Adjacent.{near_bit}

-- 1 where the rows say that the straight from v to s is clear: of a corner v by the row of s, of an end by its own row; what two ends see of each other is told apart
unfoldable pub told_bit : List ℕ → Bool → ℕ → ℕ → ℕ
told_bit rows facing v s = cond (ltb v 192) (near_bit rows s v) (cond (ltb s 192) (near_bit rows v s) (cond facing 1 0))

-- the straight between two marks is clear, as the rows say
abbrev pub ByRows : List ℕ → Bool → ℕ → ℕ → Type 0
ByRows rows facing v s = told_bit rows facing v s ≡ 1

-- every set bit of a row is that of a present corner, other than the row's own mark
pub record Tidy (blocks rows : List ℕ) : Type 0 where
  pub sized : length rows ≡ 720
  pub each : (v u : ℕ) → v < 240 → u < 192 → near_bit rows v u ≡ 1 → (is_corner blocks u ≡ true) × (u ≡ v → ⊥)

-- the word q of the marks near s: three of its row, and then one with the first end alone
unfoldable pub near_word : List ℕ → Bool → ℕ → ℕ → ℕ → ℕ
near_word rows facing first s q = cond (ltb q 3) (word rows (3 * s + q)) (told_bit rows facing first s)
