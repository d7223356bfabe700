-- The marks of a search in one list of three parts, and what relaxing by a settled mark makes of it.
use Rattle.std.specs.Prelude.{◌≡◌, ◌⊎◌, true, cond, List, ℕ, ◌+◌, ◌*◌, ◌≤◌, ◌<◌, ltb, eqb, length}
use Rattle.geometry.specs.Words.{Point, point_of, word, place_at}
use Rattle.lengths.specs.Length.{length_of}
use Rattle.lengths.specs.Charge.{charge}
use Rattle.bits.specs.inner.Bits.{bit}
use Rattle.tables.specs.Tables.{Records, is_corner, place_of, pair_byte}
use Rattle.adjacency.specs.inner.Adjacent.{AdjacentBy, Adjacent, Shows}
use Rattle.heaps.specs.inner.Marks.{Swapped}
use Rattle.search.specs.inner.LowerBound.{at_least}
use Rattle.search.specs.inner.Keys.{unreached, Open}
use Rattle.search.specs.declared.Settled.{Settled}

-- the places of the first n marks stand in the list, two words each
pub record Places (R : Records) (places : List ℕ) (n : ℕ) : Type 0 where
  pub sized : length places ≡ 480
  pub each : (v : ℕ) → v < n → place_at places (2 * v) ≡ place_of R v

-- v stands in the list where `spot` says
abbrev pub Here : List ℕ → List ℕ → ℕ → Type 0
Here waiting spot v = word waiting (word spot v) ≡ v

-- the first n of the list are the corners below top, and `spot` says where each stands
pub record Corners (blocks waiting spot : List ℕ) (top n : ℕ) : Type 0 where
  pub sized : length waiting ≡ 194
  pub spots : length spot ≡ 240
  pub few : n ≤ top
  pub all : (v : ℕ) → v < top → is_corner blocks v ≡ true → Open waiting n v
  pub only : (j : ℕ) → j < n → is_corner blocks (word waiting j) ≡ true
  pub below : (j : ℕ) → j < n → word waiting j < top
  pub inverse : (j : ℕ) → j < n → word spot (word waiting j) ≡ j

-- a corner of a present block, or the first end
abbrev pub Bend : List ℕ → ℕ → ℕ → Type 0
Bend blocks first v = (v ≡ first) ⊎ (is_corner blocks v ≡ true)

-- the first n of the list are all corners and the first end, and `spot` says where each stands
pub record Ranked (blocks : List ℕ) (first : ℕ) (waiting spot : List ℕ) (n : ℕ) : Type 0 where
  pub sized : length waiting ≡ 194
  pub spots : length spot ≡ 240
  pub few : n ≤ 193
  pub all : (v : ℕ) → Bend blocks first v → Open waiting n v
  pub only : (j : ℕ) → j < n → Bend blocks first (word waiting j)
  pub inverse : (j : ℕ) → j < n → word spot (word waiting j) ≡ j

-- the list has all corners and the first end, and nothing else among its first n
pub record Bends (blocks : List ℕ) (first : ℕ) (waiting spot : List ℕ) (n : ℕ) : Type 0 where
  pub all : (v : ℕ) → Bend blocks first v → Here waiting spot v
  pub only : (v : ℕ) → Open waiting n v → Bend blocks first v

-- the first n of the list are waiting, and the first u of them are not reached; the others have their key and 256 × their bound as a sum
pub record Parted (bound : ℕ → ℕ) (waiting spot key sums : List ℕ) (u n : ℕ) : Type 0 where
  pub sized : length waiting ≡ 194
  pub spots : length spot ≡ 240
  pub keyed : length key ≡ 240
  pub low : u ≤ n
  pub few : n ≤ 193
  pub marks : (j : ℕ) → j < n → word waiting j < 240
  pub inverse : (j : ℕ) → j < n → word spot (word waiting j) ≡ j
  pub fresh : (j : ℕ) → j < u → word key (word waiting j) ≡ unreached
  pub summed : length sums ≡ 194
  pub sum : (j : ℕ) → u ≤ j → j < n → word sums j ≡ word key (word waiting j) + 256 * bound (word waiting j)

-- the places i and j of the list are exchanged, and `spot` says so
pub record Exchanged (waiting spot waiting' spot' : List ℕ) (i j : ℕ) : Type 0 where
  pub list : Swapped waiting waiting' i j
  pub spots : length spot' ≡ length spot
  pub first : word spot' (word waiting j) ≡ i
  pub second : word spot' (word waiting i) ≡ j
  pub others : (v : ℕ) → (v ≡ word waiting i → ⊥) → (v ≡ word waiting j → ⊥) → word spot' v ≡ word spot v

-- the same marks are among the first n, in another order
pub record Resorted (waiting spot waiting' spot' : List ℕ) (n : ℕ) : Type 0 where
  pub onward : (v : ℕ) → Open waiting n v → Open waiting' n v
  pub back : (v : ℕ) → Open waiting' n v → Open waiting n v
  pub here : (v : ℕ) → Here waiting spot v → Here waiting' spot' v

-- the keys of the marks with P are lowered to `most`, where they were above it
pub record Lowered (key key' : List ℕ) (P : ℕ → Type 0) (most : ℕ → ℕ) : Type 0 where
  pub same : length key' ≡ length key
  pub down : (v : ℕ) → word key' v ≤ word key v
  pub short : (v : ℕ) → P v → word key' v ≤ most v
  pub came : (v : ℕ) → (word key' v ≡ word key v) ⊎ (P v × (word key' v ≡ most v))

-- the waiting marks with P are lowered to `most`; r of those that wait are still not reached
pub record Passed (bound most : ℕ → ℕ) (P : ℕ → Type 0) (waiting spot key waiting' spot' key' sums' : List ℕ) (r n : ℕ) : Type 0 where
  pub parted : Parted bound waiting' spot' key' sums' r n
  pub sorted : Resorted waiting spot waiting' spot' n
  pub keys : Lowered key key' (λ v. Open waiting n v × P v) most

-- the key of a mark at p by a straight to a settled mark
abbrev pub way_by : Settled → Point → ℕ
way_by by p = 256 * charge by.figure (length_of p (point_of by.place)) + 1 + by.key

-- of mark v: its key by that straight, and how far it is from the first end at least
abbrev pub via : List ℕ → Settled → ℕ → ℕ
via places by v = way_by by (place_at places (2 * v))

abbrev pub ahead : List ℕ → Settled → ℕ → ℕ
ahead places by v = at_least (point_of by.goal) (place_at places (2 * v))

-- the word has the bit of v, where its lowest is that of base
pub record Marked (w base v : ℕ) : Type 0 where
  pub at : ℕ
  pub is : base + at ≡ v
  pub set : bit at w ≡ 1

-- the first n words of the row say which corners are near v
pub record Row (blocks pairs row : List ℕ) (v n : ℕ) : Type 0 where
  pub sized : length row ≡ 3
  pub each : (q : ℕ) → q < n → (i : ℕ) → i < 64 → Shows (Adjacent blocks pairs v (64 * q + i)) (bit i (word row q))

-- the word q of the marks near s: three of the row, and then one with the first end alone
unfoldable pub near_word : List ℕ → List ℕ → ℕ → ℕ → ℕ → ℕ
near_word pairs row first s q = cond (ltb q 3) (word row q) (cond (eqb (pair_byte pairs first s) 254) 1 0)

-- the mark of its lowest bit
unfoldable pub near_base : ℕ → ℕ → ℕ
near_base first q = cond (ltb q 3) (64 * q) first

-- v has a clear straight to s, by any notion of clear
abbrev pub Seen : (ℕ → ℕ → Type 0) → ℕ → ℕ → Type 0
Seen Clear s v = (v ≡ s → ⊥) × Clear v s

-- v is near s by word q: a corner of the row, or the first end
abbrev pub NearBy : List ℕ → (ℕ → ℕ → Type 0) → ℕ → ℕ → ℕ → ℕ → Type 0
NearBy blocks Clear s first q v =
    ((q < 3) × AdjacentBy blocks Clear s v × (64 * q ≤ v) × (v < 64 * q + 64)) ⊎ ((q ≡ 3) × (v ≡ first) × Clear first s)

-- the bits of w are those of the marks near s by word q
pub record NearWord (blocks : List ℕ) (Clear : ℕ → ℕ → Type 0) (first s q w : ℕ) : Type 0 where
  pub only : (v : ℕ) → Marked w (near_base first q) v → NearBy blocks Clear s first q v
  pub all : (v : ℕ) → NearBy blocks Clear s first q v → Marked w (near_base first q) v
