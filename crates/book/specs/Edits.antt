-- What each call answers and leaves, over any tables: the relations that the contracts cite. Rules 15, 17, 18 and 22, and 44 for the totals.
use Rattle.std.specs.Prelude.{◌≡◌, List, [], ◌∷◌, ◌⊎◌, ℕ, ◌*◌, set, replicate}
use Rattle.geometry.specs.Words.{Point, word, block_words, places_from, corners}
use Rattle.tables.specs.Tables.{Records, Tables, tables, records, run_words, figure_of}
use Rattle.lists.specs.Lists.{splice, up_to}
use Rattle.tables.specs.Written.{block_record, run_record}
use Rattle.records.specs.Questions.{records_right}
use Rattle.visibility.specs.Visibility.{BlockRedrawn, RunRedrawn}
use Rattle.routing.specs.Routes.{Routed}
use Rattle.totals.specs.Totals.{totals_of}
use Rattle.book.specs.Questions.{ask, first_no, lengths_right}
use Rattle.book.specs.Book.{Edit, Book, questions, written, Target, the_block, the_run, the_figure, target}
use Rattle.book.specs.Drawing.{Right}

-- the book that the stored records write
unfoldable pub book_of : Records → Book
book_of R =
    record {
      blocks = up_to 24 (λ n. corners (block_words R.blocks n));
      runs = up_to 24 (λ m. places_from (run_words R.runs m) 1 (2 * word (run_words R.runs m) 0));
      figure = figure_of R.runs;
    }

-- questions 1 and 2 alone
abbrev pub fitness : Tables → ℕ
fitness T = first_no (ask 1 (lengths_right T) ∷ ask 2 (records_right (records T)) ∷ [])

-- the number that a call of an edit gives: questions 1 and 2 of the tables, then the edit's own
unfoldable pub answer_over : Tables → Edit → ℕ
answer_over T e = first_no (ask 1 (lengths_right T) ∷ ask 2 (records_right (records T)) ∷ questions (book_of (records T)) e)

-- what an accepted edit leaves where it writes the words ws as block n's, or run m's, record: the totals are those of the pairs and routes that it
-- leaves, right or wrong, whatever they were
pub record BlockEdited (T : Tables) (n : ℕ) (ws : List ℕ) (T' : Tables) : Type 0 where
  pub blocks : T'.blocks ≡ splice T.blocks (17 * n) ws
  pub runs : T'.runs ≡ T.runs
  pub pairs : BlockRedrawn (records T') n T.pairs T'.pairs
  pub routes : Routed (records T') T'.pairs T'.routes
  pub totals : T'.totals ≡ totals_of T'.pairs T'.routes

pub record RunEdited (T : Tables) (m : ℕ) (ws : List ℕ) (T' : Tables) : Type 0 where
  pub blocks : T'.blocks ≡ T.blocks
  pub runs : T'.runs ≡ splice T.runs (5 * m) ws
  pub pairs : RunRedrawn (records T') m T.pairs T'.pairs
  pub routes : Routed (records T') T'.pairs T'.routes
  pub totals : T'.totals ≡ totals_of T'.pairs T'.routes

-- and where it sets the figure: no pair changes, and every route is that of the new figure
pub record FigureEdited (T : Tables) (f : ℕ) (T' : Tables) : Type 0 where
  pub blocks : T'.blocks ≡ T.blocks
  pub runs : T'.runs ≡ set T.runs 120 f
  pub pairs : T'.pairs ≡ T.pairs
  pub routes : Routed (records T') T.pairs T'.routes
  pub totals : T'.totals ≡ totals_of T'.pairs T'.routes

-- what an accepted edit leaves where it writes the places ps
abbrev pub Edited : Target → Tables → List Point → Tables → Type 0
Edited (the_block n) T ps T' = BlockEdited T n (block_record ps) T'
Edited (the_run m) T ps T' = RunEdited T m (run_record ps) T'
Edited (the_figure f) T ps T' = FigureEdited T f T'

-- the whole contract of a call of an edit: its number, and every table
pub record Called (e : Edit) (T : Tables) (r : ℕ) (T' : Tables) : Type 0 where
  pub answer : r ≡ answer_over T e
  pub refused : (r ≡ 0 → ⊥) → T' ≡ T
  pub done : r ≡ 0 → Edited (target e) T (written (book_of (records T)) e) T'

-- the empty yard
unfoldable pub started : Tables
started = tables (replicate 408 0) (replicate 121 0) (replicate 28680 255) (replicate 4728 0) (replicate 25 0)

-- the whole contract of start
pub record Started (T : Tables) (r : ℕ) (T' : Tables) : Type 0 where
  pub answer : r ≡ first_no (ask 1 (lengths_right T) ∷ [])
  pub refused : (r ≡ 0 → ⊥) → T' ≡ T
  pub done : r ≡ 0 → T' ≡ started

-- the whole contract of the check: question 11 is no test of the words alone, so each of its two answers says what it means
pub record Checked (T : Tables) (r : ℕ) : Type 0 where
  pub unfit : (fitness T ≡ 0 → ⊥) → r ≡ fitness T
  pub fit : fitness T ≡ 0 → ((r ≡ 0) × Right T) ⊎ ((r ≡ 11) × (Right T → ⊥))
