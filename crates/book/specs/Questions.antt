-- Questions in order, and the number of the first that is answered no. Rules 15 and 16.
use Rattle.std.specs.Prelude.{List, [], ◌∷◌, Bool, ◌&&◌, cond, ℕ, ltb, eqb, length}
use Rattle.tables.specs.Tables.{Tables}

-- one question: its number, and whether the answer is yes
pub record Question : Type 0 where
  pub number : ℕ
  pub passes : Bool

abbrev pub ask : ℕ → Bool → Question
ask n b = record { number = n; passes = b }

-- the number of the first question whose answer is no, 0 where each is yes
unfoldable pub first_no : List Question → ℕ
first_no [] = 0
first_no (q ∷ qs) = cond q.passes (first_no qs) q.number

-- 1: the five tables are exactly as long as stated
unfoldable pub lengths_right : Tables → Bool
lengths_right T =
    eqb (length T.blocks) 408 && eqb (length T.runs) 121 && eqb (length T.pairs) 28680 && eqb (length T.routes) 4728
    && eqb (length T.totals) 25

-- 3: the number is below 24
abbrev pub number_right : ℕ → Bool
number_right n = ltb n 24
