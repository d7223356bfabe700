-- The five tables, their records and marks. Rules 2 to 6, and 44 for the totals.
use Rattle.std.specs.Prelude.{List, Bool, ◌&&◌, ◌||◌, cond, ℕ, ◌+◌, ◌*◌, ◌-◌, ◌/◌, ◌%◌, ◌<◌, ◌≤◌, ltb, leb, eqb, take, drop}
use Rattle.geometry.specs.Words.{Point, word, place_at}

pub record Tables : Type 0 where
  pub blocks : List ℕ
  pub runs : List ℕ
  pub pairs : List ℕ
  pub routes : List ℕ
  pub totals : List ℕ

abbrev pub tables : List ℕ → List ℕ → List ℕ → List ℕ → List ℕ → Tables
tables b r p s t = record { blocks = b; runs = r; pairs = p; routes = s; totals = t }

-- the stored records, which alone say where each mark is and what is hidden
pub record Records : Type 0 where
  pub blocks : List ℕ
  pub runs : List ℕ

abbrev pub stored : List ℕ → List ℕ → Records
stored b r = record { blocks = b; runs = r }

abbrev pub records : Tables → Records
records T = stored T.blocks T.runs

-- the five words of run m, and the 197 of its route
abbrev pub run_words : List ℕ → ℕ → List ℕ
run_words runs m = take 5 (drop (5 * m) runs)

abbrev pub route_words : List ℕ → ℕ → List ℕ
route_words routes m = take 197 (drop (197 * m) routes)

-- the last word of the run table: what a straight longer than 0 is charged at least
abbrev pub figure_of : List ℕ → ℕ
figure_of runs = word runs 120

-- mark 8 n + k is present as corner k of block n
unfoldable pub is_corner : List ℕ → ℕ → Bool
is_corner blocks i = ltb i 192 && ltb (i % 8) (word blocks (17 * (i / 8)))

-- marks 192 + 2 m and 193 + 2 m are present as the ends of run m
unfoldable pub is_end : List ℕ → ℕ → Bool
is_end runs i = leb 192 i && ltb i 240 && eqb (word runs (5 * ((i - 192) / 2))) 1

abbrev pub first_end : ℕ → ℕ
first_end m = 192 + 2 * m

abbrev pub second_end : ℕ → ℕ
second_end m = 193 + 2 * m

unfoldable pub present : Records → ℕ → Bool
present R i = is_corner R.blocks i || is_end R.runs i

-- the place of a mark
unfoldable pub place_of : Records → ℕ → Point
place_of R i =
    cond (ltb i 192)
    (place_at R.blocks (17 * (i / 8) + 1 + 2 * (i % 8)))
    (place_at R.runs (5 * ((i - 192) / 2) + 1 + 2 * ((i - 192) % 2)))

-- where the byte of marks i < j stands in the pair table
abbrev pub pair_index : ℕ → ℕ → ℕ
pair_index i j = j * (j - 1) / 2 + i

-- the byte of two marks, in either order
unfoldable pub pair_byte : List ℕ → ℕ → ℕ → ℕ
pair_byte pairs i j = cond (ltb i j) (word pairs (pair_index i j)) (word pairs (pair_index j i))

-- mark i is a corner of block n; an end of run m
abbrev pub OnBlock : ℕ → ℕ → Type 0
OnBlock n i = (8 * n ≤ i) × (i < 8 * n + 8)

abbrev pub OnRun : ℕ → ℕ → Type 0
OnRun m i = (192 + 2 * m ≤ i) × (i < 194 + 2 * m)
