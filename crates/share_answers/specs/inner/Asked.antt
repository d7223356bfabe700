-- The questions that come before a run is edited in a contractor's name, of the run table and the lent lists alone.
use Rattle.std.specs.Prelude.{List, [], ◌∷◌, ℕ}
use Rattle.geometry.specs.Words.{Point}
use Rattle.tables.specs.Tables.{stored}
use Rattle.book.specs.Questions.{Question, ask}
use Rattle.book.specs.Book.{free}
use Rattle.book.specs.Edits.{book_of}
use Rattle.shares.specs.Shares.{Terms, shares_right, below_ceiling, spares_others}
use Rattle.shares.specs.Calls.{names_right, own_run}

-- the places of runs that the run table says; the blocks decide nothing of them
abbrev pub run_places : List ℕ → List (List Point)
run_places runs = (book_of (stored [] runs)).runs

-- of every such edit
unfoldable pub named_asked : List (List Point) → Terms → List ℕ → ℕ → ℕ → List Question
named_asked runs t hs c m = ask 18 (shares_right runs t hs) ∷ ask 3 (names_right c m) ∷ []

-- of an addition: all but 7
unfoldable pub add_asked : List (List Point) → Terms → List ℕ → ℕ → ℕ → List Question
add_asked runs t hs c m =
    ask 18 (shares_right runs t hs) ∷ ask 3 (names_right c m) ∷ ask 4 (free runs m) ∷ ask 19 (below_ceiling t hs c) ∷ ask 20 (spares_others runs t hs c) ∷ []

-- of a removal and of a move: all but 7
unfoldable pub own_asked : List (List Point) → Terms → List ℕ → ℕ → ℕ → List Question
own_asked runs t hs c m = ask 18 (shares_right runs t hs) ∷ ask 3 (names_right c m) ∷ ask 5 (own_run runs hs c m) ∷ []
