-- What the test of a straight asks of the records; question 2 ensures it.
use Rattle.std.specs.Prelude.{◌≡◌, true, ℕ, ◌<◌}
use Rattle.geometry.specs.Words.{block_words, corners}
use Rattle.geometry.specs.Convexity.{convex}
use Rattle.tables.specs.Tables.{Records}
use Rattle.tables.specs.inner.Fit.{Fit}

-- the words are in range, and every block is convex
pub record Sound (R : Records) : Type 0 where
  pub fit : Fit R
  pub turns : (n : ℕ) → n < 24 → convex (corners (block_words R.blocks n)) ≡ true
