-- The words of the block table, and the corners that they say. Rules 1 and 2.
use Rattle.std.specs.Prelude.{List, [], ◌∷◌, ℕ, zero, suc, ◌+◌, ◌*◌, get_or, take, drop}
use Rattle.geometry.specs.declared.Place.{Place}

-- a place: east, then north, in centimetres
pub record Point : Type 0 where
  pub east : ℕ
  pub north : ℕ

abbrev pub point : ℕ → ℕ → Point
point e n = record { east = e; north = n }

-- the same of the code's struct
abbrev pub point_of : Place → Point
point_of p = point p.east p.north

abbrev pub word : List ℕ → ℕ → ℕ
word t i = get_or t i 0

-- the place whose coordinates stand at a word and the next
abbrev pub place_at : List ℕ → ℕ → Point
place_at t i = point (word t i) (word t (i + 1))

-- c places from a word on
unfoldable pub places_from : List ℕ → ℕ → ℕ → List Point
places_from t i zero = []
places_from t i (suc c) = place_at t i ∷ places_from t (i + 2) c

-- the seventeen words of block n
abbrev pub block_words : List ℕ → ℕ → List ℕ
block_words blocks n = take 17 (drop (17 * n) blocks)

-- the corners of a block record, in order: word 0 is their count, 0 where the block is absent
abbrev pub corners : List ℕ → List Point
corners ws = places_from ws 1 (word ws 0)
