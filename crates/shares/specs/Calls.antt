-- The three edits of runs in a contractor's name: their questions, and the whole contract of each call. Rule 50.
use Rattle.std.specs.Prelude.{◌≡◌, List, [], ◌∷◌, Bool, ◌&&◌, not, ℕ, ltb, eqb, set}
use Rattle.geometry.specs.Words.{Point, word}
use Rattle.tables.specs.Tables.{Tables, records}
use Rattle.records.specs.Questions.{place_right, records_right}
use Rattle.book.specs.Questions.{Question, ask, first_no, lengths_right, number_right}
use Rattle.book.specs.Book.{Edit, add_run, remove_run, move_run, free}
use Rattle.book.specs.Edits.{book_of, Called}
use Rattle.shares.specs.Shares.{Terms, lists_right, shares_right, below_ceiling, spares_others}

-- the contractor, the run's number, and its two ends
pub data EditFor : Type 0 where
  add_run_for : ℕ → ℕ → Point → Point → EditFor
  remove_run_for : ℕ → ℕ → EditFor
  move_run_for : ℕ → ℕ → Point → Point → EditFor

-- the same edit in nobody's name
abbrev pub plain : EditFor → Edit
plain (add_run_for c m p q) = add_run m p q
plain (remove_run_for c m) = remove_run m
plain (move_run_for c m p q) = move_run m p q

-- 3: the contractor is below 4, and the number below 24
abbrev pub names_right : ℕ → ℕ → Bool
names_right c m = ltb c 4 && number_right m

-- 5: the run is there, and it is this contractor's
abbrev pub own_run : List (List Point) → List ℕ → ℕ → ℕ → Bool
own_run runs holders c m = not (free runs m) && eqb (word holders m) c

-- the questions after 1 and 2, in order, of the places that a book has for runs
unfoldable pub questions_for : List (List Point) → Terms → List ℕ → EditFor → List Question
questions_for runs t hs (add_run_for c m p q) =
    ask 18 (shares_right runs t hs) ∷ ask 3 (names_right c m) ∷ ask 4 (free runs m) ∷ ask 19 (below_ceiling t hs c) ∷ ask 20 (spares_others runs t hs c)
    ∷ ask 7 (place_right p && place_right q) ∷ []
questions_for runs t hs (remove_run_for c m) = ask 18 (shares_right runs t hs) ∷ ask 3 (names_right c m) ∷ ask 5 (own_run runs hs c m) ∷ []
questions_for runs t hs (move_run_for c m p q) =
    ask 18 (shares_right runs t hs) ∷ ask 3 (names_right c m) ∷ ask 5 (own_run runs hs c m) ∷ ask 7 (place_right p && place_right q) ∷ []

-- the number that a call gives, over any tables and lists
unfoldable pub answer_over_for : Tables → Terms → List ℕ → EditFor → ℕ
answer_over_for T t hs d =
    first_no (ask 1 (lengths_right T && lists_right t hs) ∷ ask 2 (records_right (records T)) ∷ questions_for (book_of (records T)).runs t hs d)

-- the holders that an accepted call leaves
abbrev pub holders_after : EditFor → List ℕ → List ℕ
holders_after (add_run_for c m p q) hs = set hs m c
holders_after (remove_run_for c m) hs = set hs m 255
holders_after (move_run_for c m p q) hs = hs

-- the whole contract of a call in a contractor's name: its number, every table, and the holders; accepted, the tables are as the plain edit leaves them
pub record CalledFor (d : EditFor) (t : Terms) (T : Tables) (hs : List ℕ) (r : ℕ) (T' : Tables) (hs' : List ℕ) : Type 0 where
  pub answer : r ≡ answer_over_for T t hs d
  pub refused : (r ≡ 0 → ⊥) → (T' ≡ T) × (hs' ≡ hs)
  pub done : r ≡ 0 → Called (plain d) T 0 T' × (hs' ≡ holders_after d hs)
