-- The quote of a move: what every run would cost after it. Rules 16 and 53.
use Rattle.std.specs.Prelude.{◌≡◌, cond, List, ℕ, ◌*◌, eqb, ℤ, length}
use Rattle.lists.specs.Lists.{splice}
use Rattle.tables.specs.Tables.{Records, Tables, records, stored}
use Rattle.tables.specs.Written.{block_record}
use Rattle.visibility.specs.Visibility.{ByPlaces}
use Rattle.run_prices.specs.Prices.{Prices}
use Rattle.book.specs.Book.{move_block, written}
use Rattle.book.specs.Edits.{book_of, answer_over}

-- the number that the move itself gives over the same tables, but that question 1 is asked of the 48 words too
unfoldable pub quote_answer : Tables → ℕ → ℤ → ℤ → List ℕ → ℕ
quote_answer T n de dn quote = cond (eqb (length quote) 48) (answer_over T (move_block n de dn)) 1

-- the records that the move leaves: block n's is that of its moved corners
unfoldable pub moved : Records → ℕ → ℤ → ℤ → Records
moved R n de dn = stored (splice R.blocks (17 * n) (block_record (written (book_of R) (move_block n de dn)))) R.runs

-- the whole contract of the call: its number, and the 48 words, which are those that the records after the move require, whatever pairs, routes
-- and totals hold
pub record MoveQuoted (T : Tables) (n : ℕ) (de dn : ℤ) (quote : List ℕ) (r : ℕ) (quote' : List ℕ) : Type 0 where
  pub answer : r ≡ quote_answer T n de dn quote
  pub refused : (r ≡ 0 → ⊥) → quote' ≡ quote
  pub done : r ≡ 0 → Prices (moved (records T) n de dn) (ByPlaces (moved (records T) n de dn)) quote'
