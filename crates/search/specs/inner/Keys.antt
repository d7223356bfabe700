-- The keys of marks in one search, A* backwards from the second end, and what its steps say of them. A key is 256 × cost + straights.
use Rattle.std.specs.Prelude.{◌≡◌, ◌⊎◌, Bool, true, false, List, ℕ, ◌+◌, ◌*◌, ◌-◌, ◌≤◌, ◌<◌, length}
use Rattle.paths.specs.Path.{Graph, Chain, total, NoChain}
use Rattle.paths.specs.inner.LowerBound.{ConsistentBound}
use Rattle.geometry.specs.Words.{word}
use Rattle.tables.specs.Tables.{Records}
use Rattle.tables.specs.inner.Fit.{Fit}
pub use Rattle.heaps.specs.inner.Sums.{unreached, whole}

-- the list has n words, each of them x
pub record Filled (t : List ℕ) (n x : ℕ) : Type 0 where
  pub sized : length t ≡ n
  pub each : (i : ℕ) → i < n → word t i ≡ x

-- what a straight adds to a key
abbrev pub weight : Graph → ℕ → ℕ → ℕ
weight G v u = 256 * G.cost v u + 1

-- v stands among the first n of the list
pub record Open (waiting : List ℕ) (n v : ℕ) : Type 0 where
  pub place : ℕ
  pub within : place < n
  pub is : word waiting place ≡ v

-- the first n of the list are marks
pub record Listed (waiting : List ℕ) (n : ℕ) : Type 0 where
  pub marks : (j : ℕ) → j < n → word waiting j < 240
  pub sized : length waiting ≡ 194
  pub few : n ≤ 194

-- 256 × the bound of each of the first n of the list
pub record Looked (bound : ℕ → ℕ) (waiting : List ℕ) (n : ℕ) (bounds : List ℕ) : Type 0 where
  pub sized : length bounds ≡ 240
  pub each : (j : ℕ) → j < n → word bounds (word waiting j) ≡ 256 * bound (word waiting j)

-- the tables of a search
pub record Searchable (R : Records) (pairs : List ℕ) : Type 0 where
  pub fit : Fit R
  pub sized : length pairs ≡ 28680

-- what a chain from start may leave from
abbrev pub Vertex : Graph → ℕ → ℕ → Type 0
Vertex G start v = (v ≡ start) ⊎ G.Inner v

-- a chain from v that has the key
pub record Attained (G : Graph) (start end v key : ℕ) : Type 0 where
  pub vertex : Vertex G start v
  pub by : List ℕ
  pub chain : Chain G end v by
  pub exact : 256 * total G.cost by + (length by - 1) ≡ key
  pub few : length by ≤ 194

-- a chain from v with the key, of few straights, all short: n marks are waiting
pub record Reaching (G : Graph) (start end v key n : ℕ) : Type 0 where
  pub vertex : Vertex G start v
  pub by : List ℕ
  pub chain : Chain G end v by
  pub exact : 256 * total G.cost by + (length by - 1) ≡ key
  pub few : length by + n ≤ 195
  pub short : total G.cost by ≤ 46340 * (length by - 1)

-- the keys once start is settled: those that with their bounds are below start's are settled too
pub record Keyed (G : Graph) (start end : ℕ) (key : List ℕ) : Type 0 where
  pub sized : length key ≡ 240
  pub end_zero : word key end ≡ 0
  pub reached : word key start < unreached
  pub relaxed_last : (v : ℕ) → Vertex G start v → G.Edge v end → word key v ≤ weight G v end
  pub bound : ℕ → ℕ
  pub consistent : ConsistentBound G start bound
  pub relaxed : (v u : ℕ) → Vertex G start v → G.Inner u → G.Edge v u → word key u + 256 * bound u < word key start → word key v ≤ weight G v u + word key u
  pub attained : (v : ℕ) → v < 240 → (v ≡ end → ⊥) → (v ≡ start) ⊎ (word key v + 256 * bound v < word key start) → Attained G start end v (word key v)

-- what the search answers
pub record Searched (G : Graph) (start end : ℕ) (key : List ℕ) (r : Bool) : Type 0 where
  pub way : r ≡ true → Keyed G start end key
  pub no_way : r ≡ false → NoChain G start end
