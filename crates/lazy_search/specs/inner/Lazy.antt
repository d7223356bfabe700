-- The keys of a lazy search. A mark that it hopes for has as its key what the straight way to the end costs at least; a mark that it has tried has the
-- least key by a clear straight to a settled mark, and so has a settled one.
use Rattle.std.specs.Prelude.{◌≡◌, ◌⊎◌, List, ℕ, ◌+◌, ◌≤◌, ◌<◌, length}
use Rattle.paths.specs.Path.{Graph}
use Rattle.geometry.specs.Words.{Point, word}
use Rattle.tables.specs.Tables.{Records, place_of, first_end, second_end}
use Rattle.visibility.specs.Visibility.{ByPlaces}
use Rattle.search.specs.Network.{cost, graph}
use Rattle.search.specs.inner.LowerBound.{lower_bound}
use Rattle.search.specs.inner.Keys.{unreached, weight, Looked}
use Rattle.heaps.specs.inner.Marks.{Among}
use Rattle.lazy_search.specs.inner.Zones.{Bends}

-- the straights of the records: clear ones between different marks
abbrev pub straights : Records → Graph
straights R = graph R (ByPlaces R)

-- the graph that is searched: those straights, and the bending places that are listed
abbrev pub network : Records → List ℕ → ℕ → Graph
network R bends n = record { Inner = λ u. Among bends 0 n u; Edge = (straights R).Edge; cost = cost R }

-- what relaxing a mark v by a settled mark s asks
pub record Relaxable (R : Records) (v s : ℕ) (at : Point) (ks old : ℕ) : Type 0 where
  pub below : v < 240
  pub settled_below : s < 240
  pub place : at ≡ place_of R s
  pub small : ks ≤ 4294967293
  pub itself : v ≡ s → old ≡ ks

-- the key of v once s, whose key is ks, is settled
pub record Improved (G : Graph) (v s ks old new : ℕ) : Type 0 where
  pub down : new ≤ old
  pub short : G.Edge v s → new ≤ weight G v s + ks
  pub came : (new ≡ old) ⊎ (G.Edge v s × (new ≡ weight G v s + ks))

-- a clear straight from v to a mark of D gives the key r
pub record By (G : Graph) (D : ℕ → Type 0) (key : List ℕ) (v r : ℕ) : Type 0 where
  pub mark : ℕ
  pub has : D mark
  pub edge : G.Edge v mark
  pub sum : r ≡ weight G v mark + word key mark

-- r is the least key of v by a clear straight to a mark of D
pub record Exact (G : Graph) (D : ℕ → Type 0) (key : List ℕ) (v r : ℕ) : Type 0 where
  pub down : r ≤ unreached
  pub short : (s : ℕ) → D s → G.Edge v s → r ≤ weight G v s + word key s
  pub came : (r ≡ unreached) ⊎ By G D key v r

-- all keys once s is settled: only those of A change
pub record Eased (G : Graph) (A : ℕ → Type 0) (key key' : List ℕ) (s ks : ℕ) : Type 0 where
  pub sized : length key' ≡ length key
  pub down : (v : ℕ) → word key' v ≤ word key v
  pub short : (v : ℕ) → A v → G.Edge v s → word key' v ≤ weight G v s + ks
  pub came : (v : ℕ) → (word key' v ≡ word key v) ⊎ (A v × G.Edge v s × (word key' v ≡ weight G v s + ks))

-- the words of the first n of the list are those of another table, the others stay
pub record Taken (words order : List ℕ) (n : ℕ) (old new : List ℕ) : Type 0 where
  pub sized : length new ≡ length old
  pub each : (j : ℕ) → j < n → word new (word order j) ≡ word words (word order j)
  pub others : (v : ℕ) → (Among order 0 n v → ⊥) → word new v ≡ word old v

-- before the search: its list has the bending places, then the first end of run m, then the second
pub record Listing (order : List ℕ) (n m : ℕ) : Type 0 where
  pub bends : Bends order n
  pub first : word order n ≡ first_end m
  pub second : word order (n + 1) ≡ second_end m

-- every bend and the first end is hoped for, and the second end is settled; no other mark is reached
pub record Prepared (R : Records) (order : List ℕ) (n m : ℕ) (bounds key : List ℕ) : Type 0 where
  pub looked : Looked (lower_bound R (first_end m)) order (n + 1) bounds
  pub hoped : Looked (lower_bound R (second_end m)) order (n + 1) key
  pub end_zero : word key (second_end m) ≡ 0
  pub others : (v : ℕ) → v < 240 → (Among order 0 (n + 2) v → ⊥) → word key v ≡ unreached

-- what the key of mark v by the settled marks asks: they are other marks, and their keys are small
pub record Testable (order : List ℕ) (lo hi : ℕ) (key : List ℕ) (v : ℕ) : Type 0 where
  pub listed : hi ≤ length order
  pub from : lo ≤ hi
  pub keyed : length key ≡ 240
  pub below : v < 240
  pub marks : (j : ℕ) → lo ≤ j → j < hi → word order j < 240
  pub other : Among order lo hi v → ⊥
  pub small : (s : ℕ) → Among order lo hi s → word key s ≤ 4294967293

-- what easing the keys of the tried marks by s asks
pub record Easing (order : List ℕ) (lo hi : ℕ) (key : List ℕ) (s ks : ℕ) : Type 0 where
  pub listed : hi ≤ length order
  pub from : lo ≤ hi
  pub keyed : length key ≡ 240
  pub marks : (j : ℕ) → lo ≤ j → j < hi → word order j < 240
  pub below : s < 240
  pub other : Among order lo hi s → ⊥
  pub small : ks ≤ 4294967293
