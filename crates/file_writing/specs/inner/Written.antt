-- What each writer of a part promises.
use Rattle.std.specs.Prelude.{◌≡◌, List, ◌++◌, ℕ, ◌+◌, length, take}

-- the bytes before a place stay, the new ones follow them, and what stands further on is open
pub record Written (bytes old new : List ℕ) (to next : ℕ) : Type 0 where
  pub moved : next ≡ to + length bytes
  pub reads : take next new ≡ take to old ++ bytes
