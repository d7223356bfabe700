-- The edits of a yard file, up to its end or its stop, and what applying them leaves. Rule 31.
use Rattle.std.specs.Prelude.{◌≡◌, Option, Some, None, Result, Ok, Err, List, [], ◌∷◌, cond, ℕ, ◌<◌, ◌≤◌, eqb, length, take, drop}
use Rattle.tables.specs.Tables.{Tables}
use Rattle.book.specs.Book.{Edit}
use Rattle.book.specs.History.{Calls}
use Rattle.refusals.specs.declared.Refusal.{Refusal}
use Rattle.refusals.specs.Numbers.{number_of}
use Rattle.replay.specs.declared.Outcome.{Outcome}
use Rattle.yardfile.specs.declared.Item.{Item}
use Rattle.yardfile.specs.File.{read_at}
use Rattle.fields.specs.Asked.{edit_of}

-- the position that a stop names: that of the record, but 0 for a 9, which no record is to blame for
unfoldable pub stop_at : ℕ → ℕ → ℕ
stop_at n at = cond (eqb n 9) 0 at

-- the records read one after the other from a position, to where the file ends or stops: the number, 0 at the end, and the position
pub data Reads (f : List ℕ) : ℕ → List Edit → ℕ → ℕ → Type 0 where
  at_end : {at : ℕ} → read_at f at ≡ Ok None → Reads f at [] 0 at
  at_stop : {at : ℕ} {r : Refusal} → read_at f at ≡ Err r → Reads f at [] (number_of r) (stop_at (number_of r) at)
  onward : {at stop n : ℕ} {r : Item} {es : List Edit} → read_at f at ≡ Ok (Some r) → Reads f r.next es n stop → Reads f at (edit_of f r ∷ es) n stop

-- the edits up to the stop are called one after the other, and their answers stand first in the lent words, whose rest is kept
pub record EditsCalled (f : List ℕ) (T : Tables) (old answers : List ℕ) (count number at : ℕ) (T' : Tables) : Type 0 where
  pub edits : List Edit
  pub reads : Reads f 5 edits number at
  pub counted : count ≡ length edits
  pub calls : Calls edits T (take count answers) T'
  pub kept : drop count answers ≡ drop count old

-- the whole contract of replaying a file: 1 where fewer than 4,096 words are lent for the answers, and everything is kept
pub data Replayed (f : List ℕ) (T : Tables) (old : List ℕ) : List ℕ → ℕ → ℕ → ℕ → Tables → Type 0 where
  too_short : length old < 4096 → Replayed f T old old 0 1 0 T
  whole : {answers : List ℕ} {count number at : ℕ} {T' : Tables} → 4096 ≤ length old → EditsCalled f T old answers count number at T'
      → Replayed f T old answers count number at T'

-- the number of a stop, 0 at the end
abbrev pub stop_number : Option Refusal → ℕ
stop_number None = 0
stop_number (Some r) = number_of r

-- what a replay answers as numbers: how many edits were called, the number of its stop, and the position there
abbrev pub count_of : Result Outcome Refusal → ℕ
count_of (Ok o) = o.count
count_of (Err e) = 0

abbrev pub number_answered : Result Outcome Refusal → ℕ
number_answered (Ok o) = stop_number o.stop
number_answered (Err e) = number_of e

abbrev pub at_of : Result Outcome Refusal → ℕ
at_of (Ok o) = o.at
at_of (Err e) = 0
