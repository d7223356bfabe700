-- What a scan of a block record finds among the coordinates of its corners.
use Rattle.std.specs.Prelude.{◌≡◌, List, ℕ, ◌+◌, ◌*◌, ◌<◌, ◌≤◌, length, get_or}
use Rattle.coordinates.specs.declared.Limit.{Limit}
use Rattle.coordinates.specs.declared.Limit.TheVariants.{Above, Below}

-- what a scan asks of a record: seventeen words, of which word 0 counts at most eight corners
pub record Counted (ws : List ℕ) : Type 0 where
  pub sized : length ws ≡ 17
  pub count : get_or ws 0 0 ≤ 8

-- w is past the limit c: above it, or below it
abbrev pub Past : Limit → ℕ → Type 0
Past (Above c) w = c < w
Past (Below c) w = w < c

-- word x is past the limit
abbrev pub WordPast : List ℕ → Limit → ℕ → Type 0
WordPast ws limit x = Past limit (get_or ws x 0)

-- of m words, each second one from word i on, some is past the limit
pub record SomePast (ws : List ℕ) (m i : ℕ) (limit : Limit) : Type 0 where
  pub at : ℕ
  pub within : at < m
  pub past : WordPast ws limit (2 * at + i)

-- some corner of a record has a coordinate past the limit: i is 1 for east and 2 for north
abbrev pub CornerPast : List ℕ → ℕ → Limit → Type 0
CornerPast ws i limit = SomePast ws (get_or ws 0 0) i limit
