-- When the enclosing rectangles of a segment and of a polygon overlap. Rule 10.
use Rattle.std.specs.Prelude.{List, [], ◌∷◌, ℕ, ◌<◌, min, max}
use Rattle.geometry.specs.Words.{Point}

-- where some places begin along a coordinate, east or north: the least that they have of it
unfoldable pub least : (Point → ℕ) → List Point → ℕ
least c [] = 0
least c (p ∷ []) = c p
least c (p ∷ q ∷ ps) = min (c p) (least c (q ∷ ps))

-- where they end: the greatest, 0 for no places
unfoldable pub greatest : (Point → ℕ) → List Point → ℕ
greatest c [] = 0
greatest c (p ∷ ps) = max (c p) (greatest c ps)

-- along a coordinate, each begins strictly before the other ends
abbrev pub Abreast : (Point → ℕ) → List Point → List Point → Type 0
Abreast c ps qs = (least c ps < greatest c qs) × (least c qs < greatest c ps)

-- the enclosing rectangles of the polygon and of the segment from a to b overlap, east and north alike
unfoldable pub Overlaps : List Point → Point → Point → Type 0
Overlaps ps a b = Abreast (λ p. p.east) ps (a ∷ b ∷ []) × Abreast (λ p. p.north) ps (a ∷ b ∷ [])
