-- The bending places of a run's route: every corner of a present block.
use Rattle.std.specs.Prelude.{◌≡◌, true, List, ℕ}
use Rattle.tables.specs.Tables.{is_corner}
use Rattle.heaps.specs.inner.Marks.{Among}
use Rattle.lazy_search.specs.inner.Zones.{Bends}

-- the first n of the list are the corners of the present blocks, each once
pub record CornersListed (blocks order : List ℕ) (n : ℕ) : Type 0 where
  pub bends : Bends order n
  pub all : (u : ℕ) → is_corner blocks u ≡ true → Among order 0 n u
  pub only : (u : ℕ) → Among order 0 n u → is_corner blocks u ≡ true
