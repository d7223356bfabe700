-- The yard file, versions 1 and 2: what reading at a position finds. Rules 16, 28 to 30 and 45.
use Rattle.std.specs.Prelude.{List, Option, Some, None, Result, Ok, Err, Bool, true, ◌&&◌, ◌||◌, cond, ℕ, ◌+◌, ◌*◌, leb, eqb, length}
use Rattle.file_words.specs.Words.{byte, block_size, corner_words, inside}
use Rattle.yardfile.specs.declared.Item.{Item}
use Rattle.yardfile.specs.declared.Kind.{Kind}
use Rattle.yardfile.specs.declared.Kind.TheVariants.{AddBlock, RemoveBlock, MoveBlock, AddRun, RemoveRun, MoveRun, SetCharge}
use Rattle.refusals.specs.declared.Refusal.{Refusal}
use Rattle.refusals.specs.declared.Refusal.TheVariants.{NoYardFile, BrokenRecord, CornerOffTheYard}

-- 9: 5 to 8,192 bytes, the letters YRD, and version 1 or 2, low byte first
unfoldable pub head_right : List ℕ → Bool
head_right f =
    leb 5 (length f) && leb (length f) 8192
    && eqb (byte f 0) 89 && eqb (byte f 1) 82 && eqb (byte f 2) 68 && leb 1 (byte f 3) && leb (byte f 3) 2 && eqb (byte f 4) 0

-- how many fields a record of another kind has: two displacements, four coordinates, the figure, or none
unfoldable pub plain_words : ℕ → ℕ
plain_words kind = cond (eqb kind 3) 2 (cond (eqb kind 4 || eqb kind 6) 4 (cond (eqb kind 7) 1 0))

-- how many bytes follow a record's kind and number
unfoldable pub body_size : List ℕ → ℕ → ℕ
body_size f at = cond (eqb (byte f at) 1) (block_size (byte f 3) (byte f (at + 2))) (2 * plain_words (byte f at))

abbrev pub kind_right : ℕ → Bool
kind_right k = leb 1 k && leb k 7

-- the byte of a kind, and the kind of a byte from 1 to 7
abbrev pub kind_byte : Kind → ℕ
kind_byte AddBlock = 1
kind_byte RemoveBlock = 2
kind_byte MoveBlock = 3
kind_byte AddRun = 4
kind_byte RemoveRun = 5
kind_byte MoveRun = 6
kind_byte SetCharge = 7

unfoldable pub kind_of : ℕ → Kind
kind_of k =
    cond (eqb k 1) AddBlock
    (cond (eqb k 2) RemoveBlock
    (cond (eqb k 3) MoveBlock
    (cond (eqb k 4) AddRun
    (cond (eqb k 5) RemoveRun
    (cond (eqb k 6) MoveRun SetCharge)))))

-- a byte as a kind, or 10
unfoldable pub kind_at : ℕ → Result Kind Refusal
kind_at k = cond (kind_right k) (Ok (kind_of k)) (Err BrokenRecord)

-- 10, short of the end: a known kind, and the record whole, a block's count byte too
unfoldable pub record_whole : List ℕ → ℕ → Bool
record_whole f at =
    kind_right (byte f at) && leb (at + 2) (length f)
    && (cond (eqb (byte f at) 1) (leb (at + 3) (length f)) true)
    && leb (at + 2 + body_size f at) (length f)

-- 22: a block of version 2 has every corner from 0 to 32,767
unfoldable pub corners_right : List ℕ → ℕ → Bool
corners_right f at = cond (eqb (byte f at) 1 && eqb (byte f 3) 2) (inside (corner_words f (at + 2))) true

-- the record at a position: its kind, its number, where its fields start and the position after it
abbrev pub item_at : List ℕ → ℕ → Item
item_at f at = record { kind = kind_of (byte f at); number = byte f (at + 1); fields = at + 2; next = at + 2 + body_size f at }

-- what reading at a position answers: the record, nothing at the end, or 9, 10 or 22
unfoldable pub read_at : List ℕ → ℕ → Result (Option Item) Refusal
read_at f at =
    cond (head_right f)
    (cond (leb 5 at && leb at (length f))
    (cond (eqb at (length f)) (Ok None)
    (cond (record_whole f at)
    (cond (corners_right f at)
    (Ok (Some (item_at f at)))
    (Err CornerOffTheYard))
    (Err BrokenRecord)))
    (Err BrokenRecord))
    (Err NoYardFile)
