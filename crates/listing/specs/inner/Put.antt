-- What each writer of a part of the listing promises.
use Rattle.std.specs.Prelude.{◌≡◌, List, ℕ, ◌+◌, ◌≤◌, length}
use Rattle.lists.specs.Lists.{splice}

-- the bytes, at most so many, stand from a place on, all others are kept, and the answer is where they end
pub record Put (most : ℕ) (old : List ℕ) (at : ℕ) (bytes new : List ℕ) (end : ℕ) : Type 0 where
  pub few : length bytes ≤ most
  pub ends : end ≡ at + length bytes
  pub inside : end ≤ length old
  pub sized : length new ≡ length old
  pub is : new ≡ splice old at bytes
