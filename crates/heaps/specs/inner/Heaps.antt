-- A heap in the first places of a list of marks: the children of the place i are 2 i + 1 and 2 i + 2, and no sum of key and bound is greater than those of its children.
use Rattle.std.specs.Prelude.{◌≡◌, List, ℕ, ◌+◌, ◌*◌, ◌≤◌, ◌<◌, length}
use Rattle.geometry.specs.Words.{word}
use Rattle.heaps.specs.inner.Marks.{Among, Once}
use Rattle.heaps.specs.inner.Sums.{whole, Comparable}

-- the first n of the list are a heap below the places from `from` on
pub record Heap (bounds key order : List ℕ) (from n : ℕ) : Type 0 where
  pub down : (i c : ℕ) → from ≤ i → 2 * i + 1 ≤ c → c ≤ 2 * i + 2 → c < n → whole bounds key (word order i) ≤ whole bounds key (word order c)

-- the first n of the list have changed places, the others stay
pub record Rearranged (old new : List ℕ) (n : ℕ) : Type 0 where
  pub sized : length new ≡ length old
  pub others : (k : ℕ) → n ≤ k → word new k ≡ word old k
  pub to : (v : ℕ) → Among old 0 n v → Among new 0 n v
  pub back : (v : ℕ) → Among new 0 n v → Among old 0 n v
  pub once : (count : ℕ) → n ≤ count → Once old count → Once new count

-- r is the child of the place i with the lesser sum
pub record LesserChild (bounds key order : List ℕ) (i n r : ℕ) : Type 0 where
  pub from : 2 * i + 1 ≤ r
  pub to : r ≤ 2 * i + 2
  pub within : r < n
  pub least : (c : ℕ) → 2 * i + 1 ≤ c → c ≤ 2 * i + 2 → c < n → whole bounds key (word order r) ≤ whole bounds key (word order c)

-- what making the first n of the list a heap asks
pub record Heapable (bounds key order : List ℕ) (n : ℕ) : Type 0 where
  pub sums : Comparable bounds key order 0 n
  pub few : n ≤ 194
