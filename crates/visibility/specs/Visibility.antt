-- What the pair table should hold, and what an edit makes of it. Rules 5, 9, 19 and 20.
use Rattle.std.specs.Prelude.{◌≡◌, List, Bool, true, false, ◌&&◌, ◌⊎◌, ℕ, ◌<◌, length}
use Rattle.geometry.specs.Words.{Point, word}
use Rattle.geometry.specs.Obstruction.{Hidden}
use Rattle.seams.specs.Seam.{Shared}
use Rattle.tables.specs.Tables.{Records, present, place_of, pair_index, OnBlock, OnRun}

-- block n hides the straight between marks i and j
abbrev pub Hides : Records → ℕ → ℕ → ℕ → Type 0
Hides R n i j = Hidden R.blocks n (place_of R i) (place_of R j)

-- both marks are present
abbrev pub both_present : Records → ℕ → ℕ → Bool
both_present R i j = present R i && present R j

-- no block hides the straight from a to b
abbrev pub Unhidden : List ℕ → Point → Point → Type 0
Unhidden blocks a b = (n : ℕ) → n < 24 → Hidden blocks n a b → ⊥

-- the straight from a to b is clear: no block hides it, and no place of it belongs to two
pub record Clear (blocks : List ℕ) (a b : Point) : Type 0 where
  pub seen : Unhidden blocks a b
  pub unshared : Shared blocks a b → ⊥

-- it lies in a seam: no block hides it, and some place of it belongs to two
pub record InSeam (blocks : List ℕ) (a b : Point) : Type 0 where
  pub seen : Unhidden blocks a b
  pub shared : Shared blocks a b

-- the straight between two marks is clear, by the stored records
abbrev pub ClearBetween : Records → ℕ → ℕ → Type 0
ClearBetween R i j = Clear R.blocks (place_of R i) (place_of R j)

-- the clear straights of a run's graph
abbrev pub ByPlaces : Records → ℕ → ℕ → Type 0
ByPlaces R v u = (both_present R v u ≡ true) × ClearBetween R v u

-- b is the byte that the stored blocks and runs require for marks i and j
pub data PairIs (R : Records) (i j b : ℕ) : Type 0 where
  absent : both_present R i j ≡ false → b ≡ 255 → PairIs R i j b
  clear : both_present R i j ≡ true → ClearBetween R i j → b ≡ 254 → PairIs R i j b
  seam : both_present R i j ≡ true → InSeam R.blocks (place_of R i) (place_of R j) → b ≡ 253 → PairIs R i j b
  hidden : both_present R i j ≡ true → b < 24 → Hides R b i j → ((n : ℕ) → n < b → Hides R n i j → ⊥) → PairIs R i j b

-- every byte of the pair table is what the stored blocks and runs require
pub record PairsRight (R : Records) (pairs : List ℕ) : Type 0 where
  pub each : (i j : ℕ) → i < j → j < 240 → PairIs R i j (word pairs (pair_index i j))

-- an edit of block n works the byte of marks i and j out afresh: they are on its marks, or the byte was n, 253 or 254
abbrev pub Afresh : ℕ → ℕ → ℕ → ℕ → Type 0
Afresh n i j old = ((OnBlock n i ⊎ OnBlock n j) ⊎ (old ≡ n)) ⊎ ((old ≡ 253) ⊎ (old ≡ 254))

-- the byte of marks i and j before and after an edit of block n; R are the records as they now stand
pub record BlockPair (R : Records) (n i j old new : ℕ) : Type 0 where
  pub fresh : Afresh n i j old → PairIs R i j new
  pub covered : (Afresh n i j old → ⊥) → both_present R i j ≡ true → n < old → Hides R n i j → new ≡ n
  pub kept : (Afresh n i j old → ⊥) → (both_present R i j ≡ true → n < old → Hides R n i j → ⊥) → new ≡ old

-- the same of an edit of run m
pub record RunPair (R : Records) (m i j old new : ℕ) : Type 0 where
  pub fresh : OnRun m i ⊎ OnRun m j → PairIs R i j new
  pub kept : (OnRun m i → ⊥) → (OnRun m j → ⊥) → new ≡ old

-- the pair table before and after an edit of block n, and of run m
pub record BlockRedrawn (R : Records) (n : ℕ) (old new : List ℕ) : Type 0 where
  pub sized : length new ≡ 28680
  pub each : (i j : ℕ) → i < j → j < 240 → BlockPair R n i j (word old (pair_index i j)) (word new (pair_index i j))

pub record RunRedrawn (R : Records) (m : ℕ) (old new : List ℕ) : Type 0 where
  pub sized : length new ≡ 28680
  pub each : (i j : ℕ) → i < j → j < 240 → RunPair R m i j (word old (pair_index i j)) (word new (pair_index i j))
