-- What the layers under the calls ask of the stored records; question 2 ensures it.
use Rattle.std.specs.Prelude.{◌≡◌, List, ℕ, ◌*◌, ◌<◌, ◌≤◌, length}
use Rattle.geometry.specs.Words.{word}
use Rattle.geometry.specs.inner.Bounds.{Bounded}
use Rattle.tables.specs.Tables.{Records, figure_of}

-- of the words of one run
pub record BoundedRun (ws : List ℕ) : Type 0 where
  pub sized : length ws ≡ 5
  pub flag : word ws 0 ≤ 1
  pub coordinates : (i : ℕ) → i < 5 → word ws i ≤ 32767

-- of the run table
pub record BoundedRuns (runs : List ℕ) : Type 0 where
  pub sized : length runs ≡ 121
  pub flags : (m : ℕ) → m < 24 → word runs (5 * m) ≤ 1
  pub coordinates : (i : ℕ) → i < 120 → word runs i ≤ 32767
  pub figure : figure_of runs ≤ 1000

-- of both record tables
pub record Fit (R : Records) : Type 0 where
  pub blocks : Bounded R.blocks
  pub runs : BoundedRuns R.runs
