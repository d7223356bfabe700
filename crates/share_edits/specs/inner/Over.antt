-- The questions of a call in a contractor's name: 1 and 2 of tables and lists before all others.
use Rattle.std.specs.Prelude.{List, ◌∷◌, ◌&&◌, ℕ}
use Rattle.tables.specs.Tables.{Tables, records}
use Rattle.records.specs.Questions.{records_right}
use Rattle.book.specs.Questions.{Question, ask, first_no, lengths_right}
use Rattle.shares.specs.Shares.{Terms, lists_right}

unfoldable pub over : Tables → Terms → List ℕ → List Question → ℕ
over T t hs qs = first_no (ask 1 (lengths_right T && lists_right t hs) ∷ ask 2 (records_right (records T)) ∷ qs)
