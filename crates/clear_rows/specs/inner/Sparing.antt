-- The corners that marks see, worked out from the records block by block: what is left of the rows when some blocks have been passed.
use Rattle.std.specs.Prelude.{◌≡◌, Bool, true, false, List, ℕ, ◌+◌, ◌*◌, ◌/◌, ◌%◌, ◌<◌, ◌≤◌, length}
use Rattle.geometry.specs.Words.{word}
use Rattle.bits.specs.inner.Bits.{bit, Without}
use Rattle.seams.specs.Seam.{Shared}
use Rattle.tables.specs.Tables.{Records, present}
use Rattle.codes.specs.inner.Codes.{RightRecord, Hiding}
use Rattle.code_table.specs.inner.Lines.{Marks, mark_at, RowIs}
use Rattle.visibility.specs.Visibility.{Hides, ByPlaces}
use Rattle.adjacency.specs.inner.Adjacent.{Shows}
use Rattle.mark_rows.specs.inner.Adjacent.{Adjacent}
use Rattle.corner_words.specs.inner.Corners.{Lower}

-- corner u is below mark v, both are there, and no block before n hides their straight
pub record Spared (R : Records) (n v u : ℕ) : Type 0 where
  pub lower : Lower R.blocks v u
  pub there : present R v ≡ true
  pub seen : (k : ℕ) → k < n → Hides R k u v → ⊥

-- the straight from corner u to a higher mark v is clear
abbrev pub Seen : Records → ℕ → ℕ → Type 0
Seen R v u = Adjacent R.blocks (ByPlaces R) v u × (u < v)

-- a word of three for each mark says of which corners P holds: word k those from 64 (k % 3) on, for mark k / 3
abbrev pub WordFor : (ℕ → ℕ → Type 0) → ℕ → ℕ → Type 0
WordFor P k w = (i : ℕ) → i < 64 → Shows (P (k / 3) (64 * (k % 3) + i)) (bit i w)

-- every word says P
pub record AllSay (P : ℕ → ℕ → Type 0) (rows : List ℕ) : Type 0 where
  pub sized : length rows ≡ 720
  pub each : (k : ℕ) → k < 720 → WordFor P k (word rows k)

-- r has those bits of w whose corners do not have H
pub record Kept (H : ℕ → Type 0) (q w r : ℕ) : Type 0 where
  pub each : (i : ℕ) → i < 64 → Shows ((bit i w ≡ 1) × (H (64 * q + i) → ⊥)) (bit i r)

-- the same of word k of the rows
abbrev pub Sifts : (ℕ → ℕ → Type 0) → ℕ → ℕ → ℕ → Type 0
Sifts H k w r = Kept (H (k / 3)) (k % 3) w r

-- the words before n have become what Q says of each and its old one, the others are as they were
pub record Changed (Q : ℕ → ℕ → ℕ → Type 0) (old new : List ℕ) (n : ℕ) : Type 0 where
  pub sized : length new ≡ 720
  pub done : (k : ℕ) → k < n → Q k (word old k) (word new k)
  pub due : (k : ℕ) → n ≤ k → k < 720 → word new k ≡ word old k

-- the block of the record hides the straight from mark u to mark v; some place of it belongs to two blocks
abbrev pub HidBy : List ℕ → List ℕ → List ℕ → ℕ → ℕ → Type 0
HidBy ws east north v u = Hiding ws (mark_at east north u) (mark_at east north v)

abbrev pub InTwo : List ℕ → List ℕ → List ℕ → ℕ → ℕ → Type 0
InTwo blocks east north v u = Shared blocks (mark_at east north u) (mark_at east north v)

-- the codes of all marks against a block record
pub record Against (ws east north codes : List ℕ) : Type 0 where
  pub right : RightRecord ws
  pub marks : Marks east north
  pub row : RowIs ws east north codes

-- r is c without bit b if t, else c
pub record WithoutIf (c b : ℕ) (t : Bool) (r : ℕ) : Type 0 where
  pub gone : t ≡ true → Without c b r
  pub same : t ≡ false → r ≡ c
