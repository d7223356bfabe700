-- The quote of a duct and the call that gives it. Rules 16 and 37.
use Rattle.std.specs.Prelude.{◌≡◌, Bool, true, false, cond, ◌&&◌, List, [], ◌∷◌, ◌++◌, ℕ, zero, suc, ◌+◌, ◌*◌, ◌-◌, eqb, ltb, leb, length, replicate}
use Rattle.geometry.specs.Words.{word}
use Rattle.tables.specs.Tables.{Records, place_of, first_end, second_end}
use Rattle.records.specs.Questions.{records_right}
use Rattle.book.specs.Questions.{ask, first_no, number_right}
use Rattle.nets.specs.Net.{cost, IsBest, NoPath}
use Rattle.lines.specs.Lines.{lines}
use Rattle.crossings.specs.Grid.{Grid, grid, place, net, crossing_at}

-- the coordinates of crossings, east then north
unfoldable pub crossing_words : Grid → List ℕ → List ℕ
unfolding place
crossing_words g [] = []
crossing_words g (v ∷ vs) = (place g v).east ∷ (place g v).north ∷ crossing_words g vs

-- the three words of a quote between two crossings, and the 8,712 of its path: every crossing that it passes, then zeros
pub data QuoteIs (blocks : List ℕ) (g : Grid) (start end : ℕ) : List ℕ → List ℕ → Type 0 where
  found : (us : List ℕ) → IsBest (net blocks g) start end us
      → QuoteIs blocks g start end (1 ∷ cost (net blocks g) us ∷ length us ∷ []) (crossing_words g us ++ replicate (8712 - 2 * length us) 0)
  no_way : NoPath (net blocks g) start end → QuoteIs blocks g start end (2 ∷ 0 ∷ 0 ∷ []) (replicate 8712 0)

-- the grid of run m, and the crossings of its two ends
unfoldable pub grid_of : Records → ℕ → Grid
unfolding lines
grid_of R m = grid (lines R m true) (lines R m false)

unfoldable pub duct_start : Records → ℕ → ℕ
unfolding crossing_at grid_of
duct_start R m = crossing_at (grid_of R m) (place_of R (first_end m))

unfoldable pub duct_end : Records → ℕ → ℕ
unfolding crossing_at grid_of
duct_end R m = crossing_at (grid_of R m) (place_of R (second_end m))

-- the quote of run m
abbrev pub DuctIs : Records → ℕ → List ℕ → List ℕ → Type 0
DuctIs R m quote crossings = QuoteIs R.blocks (grid_of R m) (duct_start R m) (duct_end R m) quote crossings

-- how many blocks below n stand
unfoldable pub standing : List ℕ → ℕ → ℕ
standing blocks zero = 0
standing blocks (suc n) = cond (ltb 0 (word blocks (17 * n))) 1 0 + standing blocks n

-- 1: the two tables and the two lists are exactly as long as stated
unfoldable pub duct_lengths : Records → List ℕ → List ℕ → Bool
duct_lengths R quote crossings = eqb (length R.blocks) 408 && eqb (length R.runs) 121 && eqb (length quote) 3 && eqb (length crossings) 8712

-- 5: the run is present; 12: at most 8 blocks stand
unfoldable pub duct_answer : Records → ℕ → List ℕ → List ℕ → ℕ
unfolding duct_lengths standing
duct_answer R m quote crossings =
    first_no
    (ask 1 (duct_lengths R quote crossings) ∷ ask 2 (records_right R) ∷ ask 3 (number_right m) ∷ ask 5 (ltb 0 (word R.runs (5 * m)))
    ∷ ask 12 (leb (standing R.blocks 24) 8) ∷ [])

-- the whole contract of the call: its number and both lists
pub record DuctQuoted (R : Records) (m : ℕ) (quote crossings : List ℕ) (r : ℕ) (quote' crossings' : List ℕ) : Type 0 where
  pub answer : r ≡ duct_answer R m quote crossings
  pub refused : (r ≡ 0 → ⊥) → (quote' ≡ quote) × (crossings' ≡ crossings)
  pub done : r ≡ 0 → DuctIs R m quote' crossings'
