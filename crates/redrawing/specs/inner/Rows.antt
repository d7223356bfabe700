-- What the loops of the redrawing and of the check leave and find.
use Rattle.std.specs.Prelude.{◌≡◌, List, ℕ, ◌<◌, length}
use Rattle.geometry.specs.Words.{word}
use Rattle.tables.specs.Tables.{Records, pair_index}
use Rattle.visibility.specs.Visibility.{PairIs, BlockPair}

-- the bytes of mark j with the marks below it, before and after an edit of block n
pub record RowRedrawn (R : Records) (n j : ℕ) (old new : List ℕ) : Type 0 where
  pub sized : length new ≡ j
  pub each : (i : ℕ) → i < j → BlockPair R n i j (word old i) (word new i)

-- the pairs of mark k with the marks below to, and with the marks above it that are below to
abbrev pub InRow : ℕ → ℕ → ℕ → ℕ → Type 0
InRow k to i j = (j ≡ k) × (i < to)

abbrev pub InColumn : ℕ → ℕ → ℕ → ℕ → Type 0
InColumn k to i j = (i ≡ k) × (j < to)

-- the pair table before and after the chosen pairs, and no others, were worked out afresh
pub record Renewed (R : Records) (Chosen : ℕ → ℕ → Type 0) (old new : List ℕ) : Type 0 where
  pub sized : length new ≡ 28680
  pub fresh : (i j : ℕ) → i < j → j < 240 → Chosen i j → PairIs R i j (word new (pair_index i j))
  pub kept : (i j : ℕ) → i < j → j < 240 → (Chosen i j → ⊥) → word new (pair_index i j) ≡ word old (pair_index i j)

-- the bytes of mark j with the marks below top are what the records require; of every mark below top
pub record RowRight (R : Records) (pairs : List ℕ) (j top : ℕ) : Type 0 where
  pub each : (i : ℕ) → i < top → PairIs R i j (word pairs (pair_index i j))

pub record RowsRight (R : Records) (pairs : List ℕ) (top : ℕ) : Type 0 where
  pub each : (i j : ℕ) → i < j → j < top → PairIs R i j (word pairs (pair_index i j))
