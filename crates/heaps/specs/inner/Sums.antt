-- Marks compared by the sum of key and bound.
use Rattle.std.specs.Prelude.{◌≡◌, Bool, true, false, List, Option, Some, None, ℕ, ◌+◌, ◌≤◌, ◌<◌, length}
use Rattle.geometry.specs.Words.{word}

-- the key of a mark that is not reached: above all others, and a word with any bound added
abbrev pub unreached : ℕ
unreached = 4000000000

-- a mark's key with its bound
abbrev pub whole : List ℕ → List ℕ → ℕ → ℕ
whole bounds key v = word key v + word bounds v

-- what the choice of a mark asks: no sum leaves 32 bits
pub record Comparable (bounds key order : List ℕ) (lo hi : ℕ) : Type 0 where
  pub listed : hi ≤ length order
  pub from : lo ≤ hi
  pub keyed : length key ≡ 240
  pub bounded : length bounds ≡ 240
  pub marks : (j : ℕ) → lo ≤ j → j < hi → word order j < 240
  pub small : (j : ℕ) → lo ≤ j → j < hi → whole bounds key (word order j) ≤ 4294967295

-- r is the place of the least of the numbers from lo on and before hi, or hi where none of them is of a reached mark
pub record LeastOf (f : ℕ → ℕ) (lo hi r : ℕ) : Type 0 where
  pub from : lo ≤ r
  pub within : r ≤ hi
  pub reached : r < hi → f r < unreached
  pub least : r < hi → (j : ℕ) → lo ≤ j → j < hi → f r ≤ f j
  pub none : r ≡ hi → (j : ℕ) → lo ≤ j → j < hi → unreached ≤ f j

-- r is the place of the least of the numbers from lo on and before hi, or none, where none of them is of a reached mark
unfoldable pub LeastIn : (ℕ → ℕ) → ℕ → ℕ → Option ℕ → Type 0
LeastIn f lo hi (Some r) = (r < hi) × LeastOf f lo hi r
LeastIn f lo hi None = (j : ℕ) → lo ≤ j → j < hi → unreached ≤ f j

-- r is the least of the four from j on
pub record LeastFour (f : ℕ → ℕ) (j r : ℕ) : Type 0 where
  pub all : (k : ℕ) → j ≤ k → k < j + 4 → r ≤ f k
  pub place : ℕ
  pub from : j ≤ place
  pub before : place < j + 4
  pub is : f place ≡ r

-- f has the number x from a place on and before hi
pub record Has (f : ℕ → ℕ) (from hi x : ℕ) : Type 0 where
  pub place : ℕ
  pub after : from ≤ place
  pub before : place < hi
  pub is : f place ≡ x

-- low is the least of the numbers from lo on and before j, and stands at `from` or behind it; it is that of no mark where none of them is of a reached one
pub record LowTo (f : ℕ → ℕ) (lo hi low from j : ℕ) : Type 0 where
  pub top : low ≤ unreached
  pub after : lo ≤ from
  pub within : from ≤ hi
  pub has : low < unreached → Has f from hi low
  pub least : (i : ℕ) → lo ≤ i → i < j → low ≤ f i

-- the same of the sums of key and bound
abbrev pub Least : List ℕ → List ℕ → List ℕ → ℕ → ℕ → ℕ → Type 0
Least bounds key order = LeastOf (λ j. whole bounds key (word order j))

-- r says whether the mark at place i, hoped for if i is below hoped, is to be tried before the mark at place j, tried if j is below waiting, is settled
pub record Sooner (bounds key order : List ℕ) (i hoped j waiting : ℕ) (r : Bool) : Type 0 where
  pub hope : r ≡ true → i < hoped
  pub none : r ≡ false → waiting ≤ j → hoped ≤ i
  pub later : r ≡ false → i < hoped → j < waiting → whole bounds key (word order j) ≤ whole bounds key (word order i)
