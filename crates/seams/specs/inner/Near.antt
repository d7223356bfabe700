-- What the search for a seam knows of the blocks beforehand.
use Rattle.std.specs.Prelude.{◌≡◌, List, ℕ, ◌<◌, ◌≤◌, ℤ, length}
use Rattle.geometry.specs.Words.{word}
use Rattle.seams.specs.Seam.{Belongs}

-- no place of block p belongs to another block
pub record Alone (blocks : List ℕ) (p : ℕ) : Type 0 where
  pub alone : (q n : ℕ) (e d : ℤ) → 1 ≤ n → Belongs blocks p n e d → Belongs blocks q n e d → p ≡ q

-- near has a word for each block, and the blocks where it is 0 are alone
pub record Near (blocks near : List ℕ) : Type 0 where
  pub sized : length near ≡ 24
  pub each : (p : ℕ) → p < 24 → word near p ≡ 0 → Alone blocks p
