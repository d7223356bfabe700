-- The code of a place against a block: which sides it is not strictly left of.
use Rattle.std.specs.Prelude.{◌≡◌, true, cond, ◌⊎◌, List, ℕ, zero, suc, ◌+◌, ◌*◌, ◌-◌, ◌%◌, ◌<◌, ◌≤◌, min, eqb, ℤ, pos, ◌<ℤ◌, ◌≤ℤ◌, length, Option, Some, None, MatchOption}
use Rattle.std.specs.Int.Bits.{bit_and}
use Rattle.std.specs.Int.Signed.{lt_z}
use Rattle.bits.specs.inner.Bits.{bit}
use Rattle.geometry.specs.Words.{Point, word, block_words, corners}
use Rattle.geometry.specs.inner.Bounds.{BoundedRecord}
use Rattle.geometry.specs.Obstruction.{turn, side_turn, Obstructs, Hidden}
use Rattle.geometry.specs.Convexity.{convex}
use Rattle.seams.specs.inner.Reach.{Touched}
use Rattle.tables.specs.Tables.{Records, place_of}
use Rattle.tables.specs.inner.Fit.{Fit}
use Rattle.codes.specs.declared.Side.{Side}
use Rattle.codes.specs.declared.Side.TheVariants.{Right, On, Left}
use Rattle.codes.specs.declared.Meeting.{Meeting}
use Rattle.codes.specs.declared.Meeting.TheVariants.{Misses, Touches, Hides}

-- 1 where p is not strictly left of side k, else 0
unfoldable pub outside : List Point → Point → ℕ → ℕ
outside ps p k = cond (lt_z (pos 0) (side_turn ps p k)) 0 1

-- the side that bit k tells of, of m sides: the bits from the last side on repeat it
abbrev pub bit_side : ℕ → ℕ → ℕ
bit_side m k = min k (m - 1)

-- n bits from bit k on
unfoldable pub code_from : List Point → Point → ℕ → ℕ → ℕ
code_from ps p k zero = 0
code_from ps p k (suc n) = outside ps p (bit_side (length ps) k) + 2 * code_from ps p (suc k) n

-- the code of p against a block record: bit k says that p is not strictly left of side k; 255 where the block is absent
unfoldable pub code_of : List ℕ → Point → ℕ
code_of ws p = cond (eqb (word ws 0) 0) 255 (code_from (corners ws) p 0 8)

-- bit r of a code is set and the bit before it, cyclically, is clear; the other way round
pub record Starts (c r : ℕ) : Type 0 where
  pub below : r < 8
  pub set : bit r c ≡ 1
  pub clear : bit ((r + 7) % 8) c ≡ 0

pub record Ends (c r : ℕ) : Type 0 where
  pub below : r < 8
  pub clear : bit r c ≡ 0
  pub set : bit ((r + 7) % 8) c ≡ 1

-- what the coded test asks of a block record, standing or absent; question 2 ensures it
pub record RightRecord (ws : List ℕ) : Type 0 where
  pub bounded : BoundedRecord ws
  pub many : 0 < word ws 0 → 3 ≤ word ws 0
  pub round : convex (corners ws) ≡ true

-- ci and cj are the codes of a and b against such a record
pub record CodesAre (ws : List ℕ) (ci cj : ℕ) (a b : Point) : Type 0 where
  pub right : RightRecord ws
  pub first : ci ≡ code_of ws a
  pub last : cj ≡ code_of ws b

-- the block of the record stands and hides the segment
abbrev pub Hiding : List ℕ → Point → Point → Type 0
Hiding ws a b = (0 < word ws 0) × Obstructs (corners ws) a b

-- no place of the segment belongs to the block of the record
abbrev pub Missed : List ℕ → Point → Point → Type 0
Missed ws a b = (u s : ℕ) → 1 ≤ u + s → Touched ws a b u s → ⊥

-- the side of a straight that a place with the turn z against it is on
abbrev pub SideIs : ℤ → Side → Type 0
SideIs z Right = z <ℤ pos 0
SideIs z On = (pos 0 ≤ℤ z) × (z ≤ℤ pos 0)
SideIs z Left = pos 0 <ℤ z

-- the side of the segment from a to b that corner k of the record is on
pub record CornerSide (ws : List ℕ) (k : ℕ) (a b : Point) (r : Side) : Type 0 where
  pub place : Point
  pub east : place.east ≡ word ws (2 * k + 1)
  pub north : place.north ≡ word ws (2 * k + 2)
  pub side : SideIs (turn a b 1 (pos place.east) (pos place.north)) r

-- what a segment has of the block of the record: the block has no place of it, may have one but does not hide it, or hides it
abbrev pub Met : List ℕ → Point → Point → Meeting → Type 0
Met ws a b Misses = (Hiding ws a b → ⊥) × Missed ws a b
Met ws a b Touches = Hiding ws a b → ⊥
Met ws a b Hides = Hiding ws a b

-- what the coded test asks of the records; question 2 ensures it
pub record Upright (R : Records) : Type 0 where
  pub fit : Fit R
  pub each : (n : ℕ) → n < 24 → RightRecord (block_words R.blocks n)

-- the codes of the 240 marks against the 24 blocks: that of mark i against block n stands at 240 n + i
pub record CodesOf (R : Records) (codes : List ℕ) : Type 0 where
  pub sized : length codes ≡ 5760
  pub each : (n i : ℕ) → n < 24 → i < 240 → word codes (240 * n + i) ≡ code_of (block_words R.blocks n) (place_of R i)

-- such records with their codes
pub record Coded (R : Records) (codes : List ℕ) : Type 0 where
  pub records : Upright R
  pub table : CodesOf R codes

-- the blocks before block h, or all 24 where there is none
abbrev pub before : Option ℕ → ℕ
before None = 24
before (Some h) = h

-- h is the lowest block that hides the segment, if one does
pub record FirstHider (blocks : List ℕ) (a b : Point) (h : Option ℕ) : Type 0 where
  pub none : (k : ℕ) → k < before h → Hidden blocks k a b → ⊥
  pub here : MatchOption h (Unit {0}) (λ r. (r < 24) × Hidden blocks r a b)

-- some side of block n has marks i and j both not strictly left of it
abbrev pub Beside : List ℕ → ℕ → ℕ → ℕ → Type 0
Beside codes n i j = bit_and (word codes (240 * n + i)) (word codes (240 * n + j)) ≡ 0 → ⊥

-- of each block from `from` on and before `to`
abbrev pub BesideAll : List ℕ → ℕ → ℕ → ℕ → ℕ → Type 0
BesideAll codes i j from to = (n : ℕ) → from ≤ n → n < to → Beside codes n i j

-- the blocks from `from` on and before r, at most 24, are passed by
pub record PassedBy (codes : List ℕ) (i j from r : ℕ) : Type 0 where
  pub after : from ≤ r
  pub small : r ≤ 24
  pub all : BesideAll codes i j from r

-- what a look along a straight finds: the lowest block that hides it, and of those before it the ones that it may touch, unless it is beside them
pub record Looked (blocks codes : List ℕ) (i j : ℕ) (a b : Point) (h : Option ℕ) (opened : ℕ) : Type 0 where
  pub first : FirstHider blocks a b h
  pub rest : (n : ℕ) → n < before h → bit n opened ≡ 0 → Beside codes n i j ⊎ Missed (block_words blocks n) a b
