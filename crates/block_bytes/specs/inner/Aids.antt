-- What an edit of a block makes once for all pairs.
use Rattle.std.specs.Prelude.{◌≡◌, Bool, true, false, Option, Some, None, List, ◌⊎◌, ℕ, ◌+◌, ◌<◌, length}
use Rattle.bits.specs.inner.Bits.{bit}
use Rattle.geometry.specs.Words.{point_of, word, block_words}
use Rattle.geometry.specs.declared.Place.{Place}
use Rattle.seams.specs.Seam.{Disjoint}
use Rattle.seam_search.specs.inner.Masks.{Masks}
use Rattle.tables.specs.Tables.{Records, stored, present, place_of}
use Rattle.codes.specs.inner.Codes.{Coded}
use Rattle.alignments.specs.inner.Lined.{WordSays}
use Rattle.block_bytes.specs.declared.Aids.{Aids}

-- bit n of r, a number below 24, is 0 only where it is 0 in `opened` and in one of the other words, and bit n + 24 is 0 in both of these
pub record TouchedWord (opened first last r : ℕ) : Type 0 where
  pub small : r < 16777216
  pub seen : (n : ℕ) → n < 24 → bit n r ≡ 0 → bit n opened ≡ 0
  pub along : (n : ℕ) → n < 24 → bit n r ≡ 0 → (bit n first ≡ 0) ⊎ (bit n last ≡ 0)
  pub ends : (n : ℕ) → n < 24 → bit n r ≡ 0 → (bit (n + 24) first ≡ 0) × (bit (n + 24) last ≡ 0)

-- a word for each mark: bit n is 0 only where the mark is on no line of block n, bit n + 24 only where it is on no side of it, or that block shares no place with another
pub record LinedUp (R : Records) (masks lines : List ℕ) : Type 0 where
  pub sized : length lines ≡ 240
  pub each : (n i : ℕ) → n < 24 → i < 240 → WordSays (block_words R.blocks n) (place_of R i) (word masks n) n (word lines i)

-- the codes of all marks, which blocks may share a place, which have a side in line with a mark or a mark on a side, and t, which is true only where no two share one
pub record Aided (R : Records) (codes masks lines : List ℕ) (t : Bool) : Type 0 where
  pub coded : Coded R codes
  pub near : Masks R.blocks masks
  pub lined : LinedUp R masks lines
  pub apart : t ≡ true → Disjoint R.blocks

-- the records that they stand beside
abbrev pub records_of : Aids → Records
records_of a = stored a.blocks.now a.runs.now

-- such aids of a block's edit, as they are lent for each pair
abbrev pub AidsRight : Aids → Type 0
AidsRight a = Aided (records_of a) a.codes.now a.masks.now a.lines.now a.alone

-- what a row's loop keeps of its mark j: its place, if it is present
abbrev pub KnownMark : Records → ℕ → Option Place → Type 0
KnownMark R j None = present R j ≡ false
KnownMark R j (Some p) = (present R j ≡ true) × (point_of p ≡ place_of R j)
