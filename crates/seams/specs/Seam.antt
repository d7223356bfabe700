-- When a place of a straight belongs to two blocks. Rule 9.
use Rattle.std.specs.Prelude.{◌≡◌, List, ℕ, ◌<◌, ◌≤◌, ℤ, pos, ◌≤ℤ◌, length}
use Rattle.geometry.specs.Words.{Point, word, block_words, corners}
use Rattle.geometry.specs.Obstruction.{corner_at, next_corner, turn, along}

-- the place (e / n, d / n) lies left of every side of the polygon or on it
pub record Covers (ps : List Point) (n : ℕ) (e d : ℤ) : Type 0 where
  pub left : (k : ℕ) → k < length ps → pos 0 ≤ℤ turn (corner_at ps k) (corner_at ps (next_corner ps k)) n e d

-- it belongs to block k, which is present: sides and corners are included
pub record Belongs (blocks : List ℕ) (k n : ℕ) (e d : ℤ) : Type 0 where
  pub number : k < 24
  pub stands : 0 < word (block_words blocks k) 0
  pub covers : Covers (corners (block_words blocks k)) n e d

-- the place t / n of the way from a to b, which is (n A + t (B − A)) / n, belongs to block k
abbrev pub BelongsAt : List ℕ → ℕ → Point → Point → ℕ → ℕ → Type 0
BelongsAt blocks k a b n t = Belongs blocks k n (along n t a.east b.east) (along n t a.north b.north)

-- some place of the straight from a to b, fractions counted, belongs to two different blocks
pub record Shared (blocks : List ℕ) (a b : Point) : Type 0 where
  pub n : ℕ
  pub t : ℕ
  pub p : ℕ
  pub q : ℕ
  pub whole : 1 ≤ n
  pub within : t ≤ n
  pub different : p ≡ q → ⊥
  pub first : BelongsAt blocks p a b n t
  pub second : BelongsAt blocks q a b n t

-- no place, fractions counted, belongs to two different blocks
abbrev pub Disjoint : List ℕ → Type 0
Disjoint blocks = (n : ℕ) (e d : ℤ) → 1 ≤ n → (p q : ℕ) → Belongs blocks p n e d → Belongs blocks q n e d → p ≡ q
