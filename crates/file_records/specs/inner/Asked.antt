-- One question of a conversion by its number, and the size of a record in a version.
use Rattle.std.specs.Prelude.{List, Bool, cond, ℕ, ◌+◌, ◌*◌, eqb}
use Rattle.lists.specs.Lists.{all}
use Rattle.file_words.specs.Words.{byte, block_size}
use Rattle.yardfile.specs.File.{plain_words, record_whole}
use Rattle.file_records.specs.Records.{positions, rec_at}
use Rattle.file_records.specs.Conversions.{steps_right, places_right}

-- a question to the record at a position
unfoldable pub asked : ℕ → List ℕ → ℕ → Bool
asked q f at = cond (eqb q 10) (record_whole f at) (cond (eqb q 21) (steps_right (rec_at f at)) (places_right (rec_at f at)))

-- a question to all records
abbrev pub everyone : ℕ → List ℕ → Bool
everyone q f = all (asked q f) (positions f)

-- how many bytes the record at a position has in a version
unfoldable pub size_in : ℕ → List ℕ → ℕ → ℕ
size_in version f at = 2 + cond (eqb (byte f at) 1) (block_size version (byte f (at + 2))) (2 * plain_words (byte f at))
