-- The words of a record that holds given places. Rules 2 and 3: unused words are 0, and an absent record is all 0.
use Rattle.std.specs.Prelude.{List, [], ◌∷◌, ◌++◌, ℕ, ◌*◌, ◌-◌, length, replicate}
use Rattle.geometry.specs.Words.{Point}

-- the coordinates of places, east then north
unfoldable pub place_words : List Point → List ℕ
place_words [] = []
place_words (p ∷ ps) = p.east ∷ p.north ∷ place_words ps

-- the seventeen words of a block with these corners; of an absent one, where there are none
unfoldable pub block_record : List Point → List ℕ
block_record ps = length ps ∷ (place_words ps ++ replicate (16 - 2 * length ps) 0)

-- the five words of a run with these two ends; of an absent one, where there are none
unfoldable pub run_record : List Point → List ℕ
run_record [] = replicate 5 0
run_record (p ∷ ps) = 1 ∷ place_words (p ∷ ps)
