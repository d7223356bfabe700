-- The quote of a run's route from the records alone. Rules 16 and 39.
use Rattle.std.specs.Prelude.{◌≡◌, Bool, ◌&&◌, List, [], ◌∷◌, ℕ, ◌*◌, eqb, ltb, length}
use Rattle.geometry.specs.Words.{word}
use Rattle.tables.specs.Tables.{Records}
use Rattle.records.specs.Questions.{records_right}
use Rattle.visibility.specs.Visibility.{ByPlaces}
use Rattle.routing.specs.Routes.{RouteIs}
use Rattle.book.specs.Questions.{ask, first_no, number_right}

-- 1: the two tables and the 197 words are exactly as long as stated
unfoldable pub quote_lengths : Records → List ℕ → Bool
quote_lengths R route = eqb (length R.blocks) 408 && eqb (length R.runs) 121 && eqb (length route) 197

-- 5: the run is present
unfoldable pub quote_answer : Records → ℕ → List ℕ → ℕ
unfolding quote_lengths
quote_answer R m route = first_no (ask 1 (quote_lengths R route) ∷ ask 2 (records_right R) ∷ ask 3 (number_right m) ∷ ask 5 (ltb 0 (word R.runs (5 * m))) ∷ [])

-- the whole contract of the call: its number, and the words, which are the route record that these records require
pub record RouteQuoted (R : Records) (m : ℕ) (route : List ℕ) (r : ℕ) (route' : List ℕ) : Type 0 where
  pub answer : r ≡ quote_answer R m route
  pub refused : (r ≡ 0 → ⊥) → route' ≡ route
  pub done : r ≡ 0 → RouteIs R (ByPlaces R) m route'
