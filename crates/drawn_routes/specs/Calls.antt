-- The questions of the two calls, and what they answer and leave, over any tables. Rules 16 and 42.
use Rattle.std.specs.Prelude.{◌≡◌, ◌⊎◌, Bool, true, List, [], ◌∷◌, ℕ, ◌*◌, ltb, eqb, Float, length, Option, Result, IfOk}
use Rattle.refusals.specs.declared.Refusal.{Refusal}
use Rattle.refusals.specs.Numbers.{answer_of}
use Rattle.geometry.specs.Words.{word}
use Rattle.tables.specs.Tables.{Tables, records, route_words}
use Rattle.records.specs.Questions.{records_right}
use Rattle.book.specs.Questions.{ask, first_no, lengths_right, number_right}
use Rattle.book.specs.Drawing.{Right}
use Rattle.pieces.specs.declared.DrawnPiece.{DrawnPiece}
use Rattle.pieces.specs.Pieces.{Shape, piece_at}
use Rattle.pieces.specs.Showing.{Shows, Bent}

-- questions 1, 2, 3 and 5; question 1 first of the call's own lists
unfoldable pub early : Bool → Tables → ℕ → ℕ
early own T m =
    first_no (ask 1 own ∷ ask 1 (lengths_right T) ∷ ask 2 (records_right (records T)) ∷ ask 3 (number_right m) ∷ ask 5 (ltb 0 (word T.runs (5 * m))) ∷ [])

-- then question 11, which is no test of the words alone
pub record Asked (own : Bool) (T : Tables) (m r : ℕ) : Type 0 where
  pub refused : (early own T m ≡ 0 → ⊥) → r ≡ early own T m
  pub right : early own T m ≡ 0 → ((r ≡ 0) × Right T) ⊎ ((r ≡ 11) × (Right T → ⊥))

-- piece k of run m's stored route
abbrev pub stored_piece : Tables → ℕ → ℕ → Shape
stored_piece T m k = piece_at (records T) (route_words T.routes m) k

-- the whole contract of `piece`
pub record Pieced (T : Tables) (m k : ℕ) (r : Result (Option DrawnPiece) Refusal) : Type 0 where
  pub asked : Asked true T m (answer_of r)
  pub drawn : IfOk r (λ d. Shows (stored_piece T m k) d)

-- the whole contract of `bend_points`
pub record Curved (T : Tables) (m k : ℕ) (old : List Float) (r : Result Bool Refusal) (new : List Float) : Type 0 where
  pub asked : Asked (eqb (length old) 18) T m (answer_of r)
  pub refused : (answer_of r ≡ 0 → ⊥) → new ≡ old
  pub done : IfOk r (λ b. Bent (stored_piece T m k) b new)
