-- What the search keeps of the sides that it has passed: the turns of both ends of a segment against a side are x and y.
use Rattle.std.specs.Prelude.{◌≡◌, ℕ, suc, ◌+◌, ◌<◌, ◌≤◌, ℤ, pos, nat_abs, ◌+ℤ◌, ◌-ℤ◌, ◌*ℤ◌, ◌<ℤ◌}
use Rattle.geometry.specs.declared.Span.{Span as Turns}

-- |z| ≤ k; a record, so that k and z are found from a proof
pub record Within (k : ℕ) (z : ℤ) : Type 0 where
  pub within : nat_abs z ≤ k

-- the point with the weights u and s of the two ends is left of the side
abbrev pub In : ℕ → ℕ → ℤ → ℤ → Type 0
In u s x y = pos 0 <ℤ (pos u *ℤ x +ℤ pos s *ℤ y)

-- it is left of each of the first m sides
abbrev pub Inside : ℕ → (ℕ → ℤ) → (ℕ → ℤ) → ℕ → ℕ → Type 0
Inside m x y u s = (k : ℕ) → k < m → In u s (x k) (y k)

-- some point t / n of the way is left of each of the first m sides
unfoldable pub Enters : ℕ → (ℕ → ℤ) → (ℕ → ℤ) → Type 0
Enters m x y = (n : ℕ) × (t : ℕ) × (1 ≤ n) × (t ≤ n) × ((k : ℕ) → k < m → pos 0 <ℤ ((pos n -ℤ pos t) *ℤ x k +ℤ pos t *ℤ y k))

-- of the first m sides, (l, r) stands for those that the first end is not left of, and (p, q) for those that the second is not left of
pub record Span (m : ℕ) (x y : ℕ → ℤ) (l r p q : ℤ) : Type 0 where
  pub low : pos 0 <ℤ r
  pub up : pos 0 <ℤ p
  pub all : (u s : ℕ) → 1 ≤ u + s → In u s l r → In u s p q → Inside m x y u s
  pub only : (u s : ℕ) → 1 ≤ u + s → Inside m x y u s → In u s l r × In u s p q

-- a turn is at most 2,200,000,000 in size, so that a product of two fits 64 bits
pub record Small (l r p q : ℤ) : Type 0 where
  pub small_l : Within 2200000000 l
  pub small_r : Within 2200000000 r
  pub small_p : Within 2200000000 p
  pub small_q : Within 2200000000 q

-- the two kept sides after one more side (x, y)
pub record Narrowed (l r p q x y l' r' p' q' : ℤ) : Type 0 where
  pub small : Small l' r' p' q'
  pub span : (m : ℕ) (f g : ℕ → ℤ) → f m ≡ x → g m ≡ y → Span m f g l r p q → Span (suc m) f g l' r' p' q'

-- some point of the segment is left of two sides, whose turns are (l, r) and (p, q)
unfoldable pub Meets : ℤ → ℤ → ℤ → ℤ → Type 0
Meets l r p q = (u : ℕ) × (s : ℕ) × (1 ≤ u + s) × In u s l r × In u s p q

-- ---- of the code's struct
abbrev pub SmallSpan : Turns → Type 0
SmallSpan s = Small s.l s.r s.p s.q

abbrev pub NarrowedSpan : Turns → ℤ → ℤ → Turns → Type 0
NarrowedSpan s x y s' = Narrowed s.l s.r s.p s.q x y s'.l s'.r s'.p s'.q
