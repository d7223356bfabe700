-- What the search for a seam keeps of the sides that it has passed, and what its functions answer. The turns of a segment's ends against a side are x and y.
use Rattle.std.specs.Prelude.{List, Option, Some, None, ◌⊎◌, ℕ, ◌+◌, ◌<◌, ◌≤◌, ℤ, pos, ◌+ℤ◌, ◌*ℤ◌, ◌<ℤ◌, ◌≤ℤ◌}
use Rattle.geometry.specs.Words.{Point, word, block_words, corners}
use Rattle.geometry.specs.Obstruction.{side_turn}
use Rattle.geometry.specs.inner.Sides.{Small}
use Rattle.geometry.specs.declared.Span.{Span}

-- the point with the weights u and s of the two ends is left of the side or on it
abbrev pub On : ℕ → ℕ → ℤ → ℤ → Type 0
On u s x y = pos 0 ≤ℤ (pos u *ℤ x +ℤ pos s *ℤ y)

-- of each of the first m sides
abbrev pub Around : ℕ → (ℕ → ℤ) → (ℕ → ℤ) → ℕ → ℕ → Type 0
Around m x y u s = (k : ℕ) → k < m → On u s (x k) (y k)

-- it belongs to the block whose record is ws
pub record Touched (ws : List ℕ) (a b : Point) (u s : ℕ) : Type 0 where
  pub stands : 0 < word ws 0
  pub around : Around (word ws 0) (side_turn (corners ws) a) (side_turn (corners ws) b) u s

-- it is on the inner side of both kept sides
pub record Both (l r p q : ℤ) (u s : ℕ) : Type 0 where
  pub low : On u s l r
  pub up : On u s p q

-- a side that bounds the weights from one end: the other end is not right of it, and not both ends are on it
pub record Bounds (x y : ℤ) : Type 0 where
  pub above : pos 0 ≤ℤ y
  pub apart : (x <ℤ pos 0) ⊎ (pos 0 <ℤ y)

-- two sides that can be kept: (l, r) bounds from the first end, (p, q) from the second
pub record Ends (l r p q : ℤ) : Type 0 where
  pub low : Bounds l r
  pub up : Bounds q p

pub record Kept (l r p q : ℤ) : Type 0 where
  pub small : Small l r p q
  pub ends : Ends l r p q

-- the two sides after one more side (x, y)
pub record Narrower (l r p q x y l' r' p' q' : ℤ) : Type 0 where
  pub ends : Ends l' r' p' q'
  pub all : (u s : ℕ) → Both l' r' p' q' u s → Both l r p q u s × On u s x y
  pub only : (u s : ℕ) → Both l r p q u s → On u s x y → Both l' r' p' q' u s

pub record Tightened (l r p q x y l' r' p' q' : ℤ) : Type 0 where
  pub small : Small l' r' p' q'
  pub side : Narrower l r p q x y l' r' p' q'

-- some point is on the inner side of both kept sides
unfoldable pub Common : ℤ → ℤ → ℤ → ℤ → Type 0
Common l r p q = (u : ℕ) × (s : ℕ) × (1 ≤ u + s) × Both l r p q u s

-- the kept sides after every side of a block that is met
pub record Left (ws : List ℕ) (a b : Point) (l r p q l' r' p' q' : ℤ) : Type 0 where
  pub kept : Kept l' r' p' q'
  pub some : Common l' r' p' q'
  pub all : (u s : ℕ) → 1 ≤ u + s → Both l' r' p' q' u s → Both l r p q u s × Touched ws a b u s
  pub only : (u s : ℕ) → 1 ≤ u + s → Both l r p q u s → Touched ws a b u s → Both l' r' p' q' u s

-- ---- of the code's struct
abbrev pub KeptSpan : Span → Type 0
KeptSpan s = Kept s.l s.r s.p s.q

abbrev pub TightenedSpan : Span → ℤ → ℤ → Span → Type 0
TightenedSpan s x y s' = Tightened s.l s.r s.p s.q x y s'.l s'.r s'.p s'.q

-- what a block leaves of the points between the sides kept before: those between the sides kept now, or none
abbrev pub Reached : List ℕ → Point → Point → Span → Option Span → Type 0
Reached ws a b s (Some s') = Left ws a b s.l s.r s.p s.q s'.l s'.r s'.p s'.q
Reached ws a b s None = (u v : ℕ) → 1 ≤ u + v → Both s.l s.r s.p s.q u v → Touched ws a b u v → ⊥

-- some point that is on the inner side of both kept sides belongs to the block whose record is ws
pub record Meeting (ws : List ℕ) (a b : Point) (l r p q : ℤ) : Type 0 where
  pub u : ℕ
  pub s : ℕ
  pub some : 1 ≤ u + s
  pub between : Both l r p q u s
  pub touched : Touched ws a b u s

-- or to a block from `from` on
pub record Joined (blocks : List ℕ) (from : ℕ) (a b : Point) (l r p q : ℤ) : Type 0 where
  pub k : ℕ
  pub after : from ≤ k
  pub number : k < 24
  pub met : Meeting (block_words blocks k) a b l r p q

-- some point of the segment belongs both to block p and to block q
pub record SharedBy (blocks : List ℕ) (p q : ℕ) (a b : Point) : Type 0 where
  pub u : ℕ
  pub s : ℕ
  pub some : 1 ≤ u + s
  pub here : Touched (block_words blocks p) a b u s
  pub there : Touched (block_words blocks q) a b u s

-- both to block n and to a later one
pub record SharedFrom (blocks : List ℕ) (n : ℕ) (a b : Point) : Type 0 where
  pub k : ℕ
  pub later : n < k
  pub number : k < 24
  pub shared : SharedBy blocks n k a b
