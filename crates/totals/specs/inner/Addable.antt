-- What the loops over pairs and routes ask and leave.
use Rattle.std.specs.Prelude.{◌≡◌, List, ℕ, ◌<◌, ◌≤◌, length}
use Rattle.geometry.specs.Words.{word}
use Rattle.tables.specs.Tables.{route_words}
use Rattle.totals.specs.Totals.{count, found_length}

-- no route is longer than 193 straights of 46,340, so that the sum of 24 is at most 214,646,880: it fits 32 bits
pub record Addable (routes : List ℕ) : Type 0 where
  pub sized : length routes ≡ 4728
  pub each : (m : ℕ) → m < 24 → found_length (route_words routes m) ≤ 8943620

-- entry b of the list is how many of the bytes are b
pub record Tallied (bytes counts : List ℕ) : Type 0 where
  pub sized : length counts ≡ 256
  pub each : (b : ℕ) → b < 256 → word counts b ≡ count b bytes

-- the first n words are those of the list
pub record CopiedTo (counts totals : List ℕ) (n : ℕ) : Type 0 where
  pub sized : length totals ≡ 25
  pub each : (k : ℕ) → k < n → word totals k ≡ word counts k
