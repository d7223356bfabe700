-- A yard file as a list of records, and how each version writes one. Rule 46.
use Rattle.std.specs.Prelude.{List, [], ◌∷◌, ◌++◌, map, cond, ℕ, zero, suc, ◌+◌, ◌-◌, ◌/◌, ◌%◌, ltb, eqb, length}
use Rattle.file_words.specs.Words.{byte, fields_from, corner_words}
use Rattle.yardfile.specs.File.{plain_words, body_size}

-- a record: its kind, its number byte and its fields, for a block the words of its corners
pub record Rec : Type 0 where
  pub kind : ℕ
  pub number : ℕ
  pub words : List ℕ

-- the position after the record at a position
abbrev pub next_at : List ℕ → ℕ → ℕ
next_at f at = at + 2 + body_size f at

-- where records stand from a position to the end, n at the most
unfoldable pub positions_from : List ℕ → ℕ → ℕ → List ℕ
positions_from f zero at = []
positions_from f (suc n) at = cond (ltb at (length f)) (at ∷ positions_from f n (next_at f at)) []

-- all of them: a record has two bytes at least, so a file has fewer records than bytes
abbrev pub positions : List ℕ → List ℕ
positions f = positions_from f (length f) 5

-- the fields of the record at a position
unfoldable pub words_at : List ℕ → ℕ → List ℕ
words_at f at = cond (eqb (byte f at) 1) (corner_words f (at + 2)) (fields_from f (at + 2) (plain_words (byte f at)))

-- that record
abbrev pub rec_at : List ℕ → ℕ → Rec
rec_at f at = record { kind = byte f at; number = byte f (at + 1); words = words_at f at }

-- the records of a file
abbrev pub records : List ℕ → List Rec
records f = map (rec_at f) (positions f)

-- words in full, low byte first
unfoldable pub word_bytes : List ℕ → List ℕ
word_bytes [] = []
word_bytes (w ∷ ws) = w % 256 ∷ w / 256 ∷ word_bytes ws

-- the signed byte that leads from a coordinate to another: their difference in two's complement
unfoldable pub step_byte : ℕ → ℕ → ℕ
step_byte a c = (65536 + c - a) % 256

-- each word by a step from the word two before it, which is the same coordinate of the corner before
unfoldable pub step_bytes : ℕ → ℕ → List ℕ → List ℕ
step_bytes a b [] = []
step_bytes a b (c ∷ ws) = step_byte a c ∷ step_bytes b c ws

-- corners as version 2 writes them: the first in full, the later ones by steps
unfoldable pub short_bytes : List ℕ → List ℕ
short_bytes [] = []
short_bytes (a ∷ []) = []
short_bytes (a ∷ b ∷ ws) = word_bytes (a ∷ b ∷ []) ++ step_bytes a b ws

-- corners as a version writes them
unfoldable pub corner_bytes : ℕ → List ℕ → List ℕ
corner_bytes version ws = cond (eqb version 1) (word_bytes ws) (short_bytes ws)

-- what follows the kind and the number: a block's count and corners, or the fields
unfoldable pub body_bytes : ℕ → ℕ → List ℕ → List ℕ
body_bytes version kind ws = cond (eqb kind 1) (length ws / 2 ∷ corner_bytes version ws) (word_bytes ws)

-- a record as a version writes it
abbrev pub rec_bytes : ℕ → Rec → List ℕ
rec_bytes version r = r.kind ∷ r.number ∷ body_bytes version r.kind r.words

-- records, one after the other
unfoldable pub bytes_of : ℕ → List Rec → List ℕ
bytes_of version [] = []
bytes_of version (r ∷ rs) = rec_bytes version r ++ bytes_of version rs

-- a whole file: the letters YRD, the version, and the records
abbrev pub file_of : ℕ → List Rec → List ℕ
file_of version rs = 89 ∷ 82 ∷ 68 ∷ version ∷ 0 ∷ bytes_of version rs
