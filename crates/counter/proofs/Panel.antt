-- The counter and the panel agree: on a yard that is drawn, the quote of a run is its stored route record word for word.
use mathlib.Core.Path.{◌≡◌, refl, sym}
use mathlib.Core.Bool.{true}
use mathlib.Core.List.{List}
use Prim.Native.Nat.{ℕ, ◌*◌, ◌<◌}
use lib.ListN.{length}
use Rattle.geometry.specs.Words.{word}
use Rattle.tables.specs.Tables.{Tables, records, route_words}
use Rattle.visibility.specs.Visibility.{ByPlaces}
use Rattle.routing.proofs.Unique.{route_unique}
use Rattle.book.specs.Book.{Book}
use Rattle.book.specs.Drawing.{Drawn}
use Rattle.book.specs.Edits.{book_of, Checked}
use Rattle.book.proofs.Demand3.{drawn_records}
use Rattle.book.proofs.Checks.{checked_drawn, checked_sound}
use Rattle.counter.specs.Quote.{quote_answer, RouteQuoted}
use Rattle.counter.proofs.Asking.{long, answer_0, accepted}

pub drawn_stores : (b : Book) (T : Tables) → Drawn b T → (m : ℕ) (route route' : List ℕ) → RouteQuoted (records T) m route 0 route'
    → route' ≡ route_words T.routes m
drawn_stores b T d m route route' q =
    route_unique (records T) (ByPlaces (records T)) m (q.done refl)
    (d.right.routes m (accepted T.blocks T.runs m route q.answer).number)

-- as it is on a yard that the check answers 0
pub panel_stores : (T : Tables) → Checked T 0 → (m : ℕ) (route route' : List ℕ) → RouteQuoted (records T) m route 0 route' → route' ≡ route_words T.routes m
panel_stores T c = drawn_stores (book_of (records T)) T (checked_drawn T c)

-- where every present run has a quote
pub panel_answers : (T : Tables) → Checked T 0 → (m : ℕ) (route : List ℕ) → m < 24 → length route ≡ 197 → (word T.runs (5 * m) ≡ 0 → ⊥)
    → 0 ≡ quote_answer (records T) m route
panel_answers T c m route h e =
    let d = checked_drawn T c in
    answer_0 T.blocks T.runs m route (long _ _ _ _ d.sizes.0 d.sizes.1 e) true (sym (drawn_records (book_of (records T)) T (checked_sound T c) d)) refl h
