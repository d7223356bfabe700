-- When a segment is obstructed by a polygon. Rules 7 and 8: a straight is a segment, and a block hides it when its polygon obstructs it.
use Rattle.std.specs.Prelude.{List, ℕ, ◌+◌, ◌*◌, ◌%◌, ◌<◌, ◌≤◌, ℤ, pos, ◌+ℤ◌, ◌-ℤ◌, ◌*ℤ◌, ◌<ℤ◌, length, get_or}
use Rattle.geometry.specs.Words.{Point, point, word, block_words, corners}

abbrev pub corner_at : List Point → ℕ → Point
corner_at ps k = get_or ps k (point 0 0)

-- the number of the corner after corner k, anticlockwise; after the last comes the first
abbrev pub next_corner : List Point → ℕ → ℕ
next_corner ps k = (k + 1) % length ps

-- the product difference for the side from p to q and the place (e, n), p multiplied by s: above 0 where the place lies strictly left
unfoldable pub turn : Point → Point → ℕ → ℤ → ℤ → ℤ
turn p q s e n =
    ((pos q.east -ℤ pos p.east) *ℤ (n -ℤ pos (s * p.north)))
    -ℤ ((pos q.north -ℤ pos p.north) *ℤ (e -ℤ pos (s * p.east)))

-- the turn of a place against side k of a polygon
unfoldable pub side_turn : List Point → Point → ℕ → ℤ
side_turn ps p k = turn (corner_at ps k) (corner_at ps (next_corner ps k)) 1 (pos p.east) (pos p.north)

-- one coordinate of D = n × A + t × (B − A)
unfoldable pub along : ℕ → ℕ → ℕ → ℕ → ℤ
along n t a b = pos (n * a) +ℤ (pos t *ℤ (pos b -ℤ pos a))

-- D lies strictly left of the side from p to q, its corners multiplied by n
abbrev pub LeftOf : Point → Point → ℕ → ℕ → Point → Point → Type 0
LeftOf p q n t a b = pos 0 <ℤ turn p q n (along n t a.east b.east) (along n t a.north b.north)

-- the place t / n of the way from a to b lies strictly left of every side
pub record InsideAt (ps : List Point) (a b : Point) (n t : ℕ) : Type 0 where
  pub whole : 1 ≤ n
  pub within : t ≤ n
  pub left : (k : ℕ) → k < length ps → LeftOf (corner_at ps k) (corner_at ps (next_corner ps k)) n t a b

-- some place of the segment from a to b, fractions counted, lies strictly inside the polygon
abbrev pub Obstructs : List Point → Point → Point → Type 0
Obstructs ps a b = (n : ℕ) × (t : ℕ) × InsideAt ps a b n t

-- block n is present and hides the straight from a to b
pub record Hidden (blocks : List ℕ) (n : ℕ) (a b : Point) : Type 0 where
  pub stands : 0 < word (block_words blocks n) 0
  pub across : Obstructs (corners (block_words blocks n)) a b
