-- The list that a lazy search keeps its marks in: first those that it hopes for, then those that it has tried, then those that are settled.
use Rattle.std.specs.Prelude.{◌≡◌, List, ℕ, ◌≤◌, ◌<◌, length}
use Rattle.geometry.specs.Words.{word}
use Rattle.heaps.specs.inner.Marks.{Once}

-- the bending places of a search: the first n of the list, each once
pub record Bends (order : List ℕ) (n : ℕ) : Type 0 where
  pub sized : length order ≡ 194
  pub few : n ≤ 192
  pub corners : (i : ℕ) → i < n → word order i < 192
  pub once : Once order n

-- the list of a search: those before hoped are hoped for, then up to waiting tried, then up to count settled
pub record Zones (order : List ℕ) (hoped waiting count : ℕ) : Type 0 where
  pub sized : length order ≡ 194
  pub start : hoped ≤ waiting
  pub rest : waiting < count
  pub few : count ≤ 194
  pub marks : (i : ℕ) → i < count → word order i < 240
  pub once : Once order count
