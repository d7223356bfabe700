-- Turning a yard file into the other version: the questions in their order, and the result. Rules 16 and 47.
use Rattle.std.specs.Prelude.{List, [], ◌∷◌, Bool, true, ◌&&◌, ◌||◌, cond, ℕ, ◌+◌, leb, eqb, length}
use Rattle.lists.specs.Lists.{all}
use Rattle.file_words.specs.Words.{byte, inside}
use Rattle.yardfile.specs.File.{head_right, record_whole}
use Rattle.file_records.specs.Records.{Rec, positions, records, file_of}

-- a step from a coordinate to the same one of the next corner is from -128 to 127
abbrev pub step_near : ℕ → ℕ → Bool
step_near a c = leb c (a + 127) && leb a (c + 128)

-- so is each step along words that follow the coordinates a and b of a corner
unfoldable pub near_from : ℕ → ℕ → List ℕ → Bool
near_from a b [] = true
near_from a b (c ∷ ws) = step_near a c && near_from b c ws

-- and along all corners
unfoldable pub near : List ℕ → Bool
near [] = true
near (a ∷ []) = true
near (a ∷ b ∷ ws) = near_from a b ws

-- 21: every step of a block is from -128 to 127
unfoldable pub steps_right : Rec → Bool
steps_right r = cond (eqb r.kind 1) (near r.words) true

-- 22: every corner of a block is from 0 to 32,767
unfoldable pub places_right : Rec → Bool
places_right r = cond (eqb r.kind 1) (inside r.words) true

-- the file in another version: its records, written as that version does
unfoldable pub converted : ℕ → List ℕ → List ℕ
converted target f = file_of target (records f)

-- the answer: 9, also for a file that is not of the source version; 10, 21 where the target is version 2, and 22, each put to all records
-- before the next; and 9 again for a result above 8,192 bytes
unfoldable pub answer : ℕ → ℕ → List ℕ → ℕ
answer source target f =
    cond (head_right f && eqb (byte f 3) source)
    (cond (all (record_whole f) (positions f))
    (cond (eqb target 1 || all steps_right (records f))
    (cond (all places_right (records f))
    (cond (leb (length (converted target f)) 8192) 0 9)
    22)
    21)
    10)
    9
