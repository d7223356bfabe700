-- What the comparison of the enclosing rectangles of two blocks finds.
use Rattle.std.specs.Prelude.{◌≡◌, List, ℕ, ◌+◌, ◌*◌, ◌<◌, ◌≤◌, ℤ, pos, ◌<ℤ◌, length, min, max}
use Rattle.neighbours.specs.declared.End.{End}
use Rattle.neighbours.specs.declared.End.TheVariants.{Least, Greatest}
use Rattle.geometry.specs.Words.{Point, word, block_words, corners}
use Rattle.geometry.specs.Obstruction.{corner_at, side_turn}
use Rattle.seams.specs.Seam.{Covers, Belongs}

-- the first three corners turn left
pub record Solid (ps : List Point) : Type 0 where
  pub three : 3 ≤ length ps
  pub turns : pos 0 <ℤ side_turn ps (corner_at ps 2) 0

-- no corner of a record has a coordinate above m: i is 1 for east and 2 for north
pub record Reaches (ws : List ℕ) (i m : ℕ) : Type 0 where
  pub each : (k : ℕ) → k < word ws 0 → word ws (2 * k + i) ≤ m

-- and none below m
pub record Leaves (ws : List ℕ) (i m : ℕ) : Type 0 where
  pub each : (k : ℕ) → k < word ws 0 → m ≤ word ws (2 * k + i)

-- of v and w, the one further towards an end
abbrev pub Further : End → ℕ → ℕ → ℕ → Type 0
Further Least v w m = m ≡ min v w
Further Greatest v w m = m ≡ max v w

-- no corner lies past m at an end
abbrev pub Ends : List ℕ → ℕ → End → ℕ → Type 0
Ends ws i Least m = Leaves ws i m
Ends ws i Greatest m = Reaches ws i m

-- along a coordinate, a limit that no corner of the first record is above, and every corner of the second
pub record Beyond (ws vs : List ℕ) (i : ℕ) : Type 0 where
  pub limit : ℕ
  pub within : Reaches ws i limit
  pub past : (k : ℕ) → k < word vs 0 → limit < word vs (2 * k + i)

-- no place belongs to both of two records that are present
pub record Apart (ws vs : List ℕ) : Type 0 where
  pub apart : (n : ℕ) (e d : ℤ) → 1 ≤ n → 0 < word ws 0 → 0 < word vs 0 → Covers (corners ws) n e d → Covers (corners vs) n e d → ⊥

-- no place belongs to blocks p and q, where these are two
pub record Parted (blocks : List ℕ) (p q : ℕ) : Type 0 where
  pub parted : (n : ℕ) (e d : ℤ) → 1 ≤ n → Belongs blocks p n e d → Belongs blocks q n e d → p ≡ q

-- along a coordinate, a present record is solid and has no corner below m; where m is 0 nothing is said
pub record Low (ws : List ℕ) (i m : ℕ) : Type 0 where
  pub small : m ≤ 65535
  pub solid : 0 < m → 0 < word ws 0 → Solid (corners ws)
  pub bound : 0 < m → 0 < word ws 0 → Leaves ws i m

-- and none above m; where m is 65,535 nothing is said
pub record High (ws : List ℕ) (i m : ℕ) : Type 0 where
  pub solid : m < 65535 → 0 < word ws 0 → Solid (corners ws)
  pub bound : m < 65535 → 0 < word ws 0 → Reaches ws i m

-- the bound of an end
abbrev pub Bound : List ℕ → ℕ → End → ℕ → Type 0
Bound ws i Least m = Low ws i m
Bound ws i Greatest m = High ws i m

-- a list of 24 words, of which the first n are right for their numbers
pub record Listed (P : ℕ → ℕ → Type 0) (t : List ℕ) (n : ℕ) : Type 0 where
  pub sized : length t ≡ 24
  pub each : (k : ℕ) → k < n → P k (word t k)

-- a bound from below for each block
abbrev pub Lows : List ℕ → ℕ → List ℕ → Type 0
Lows blocks i t = Listed (λ k m. Low (block_words blocks k) i m) t 24

-- a bound from above
abbrev pub Highs : List ℕ → ℕ → List ℕ → Type 0
Highs blocks i t = Listed (λ k m. High (block_words blocks k) i m) t 24

-- a bound at an end for each block
abbrev pub Bounds : List ℕ → ℕ → End → List ℕ → Type 0
Bounds blocks i end t = Listed (λ k m. Bound (block_words blocks k) i end m) t 24
