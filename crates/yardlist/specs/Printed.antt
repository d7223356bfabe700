-- What yardlist writes for the yard file that it reads. Rules 31 and 32.
use Rattle.std.specs.Prelude.{List, ℕ, replicate}
use Rattle.tables.specs.Tables.{Tables}
use Rattle.book.specs.Edits.{started}
use Rattle.replay.specs.Replay.{Replayed}
use Rattle.listing.specs.Lines.{Listed}

-- the edits of the file up to its stop are replayed over the empty yard, and what that leaves is listed in the first r of the lent bytes
pub record Printed (f old new : List ℕ) (r : ℕ) : Type 0 where
  pub answers : List ℕ
  pub count : ℕ
  pub number : ℕ
  pub at : ℕ
  pub yard : Tables
  pub replayed : Replayed f started (replicate 4096 0) answers count number at yard
  pub listed : Listed answers count number at yard.routes old new r
