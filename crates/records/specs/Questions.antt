-- Questions 2, 6, 7, 8 and 13 as tests of words and places. Rules 1, 3 and 16.
use Rattle.std.specs.Prelude.{List, Bool, ◌&&◌, ◌||◌, ℕ, ◌+◌, ◌*◌, ◌/◌, ◌%◌, leb, eqb, ℤ, pos, nat_abs, ◌+ℤ◌, length, drop}
use Rattle.std.specs.Int.Signed.{le_z}
use Rattle.geometry.specs.Words.{Point, point, word, block_words, places_from, corners}
use Rattle.geometry.specs.Convexity.{convex}
use Rattle.lists.specs.Lists.{all, all_below}
use Rattle.tables.specs.Tables.{Records, run_words, figure_of}

-- 6: whole corners, 3 to 8 of them
unfoldable pub count_right : List ℕ → Bool
count_right ws = leb 6 (length ws) && leb (length ws) 16 && eqb (length ws % 2) 0

-- 7: a coordinate from 0 to 32,767
abbrev pub coordinate_right : ℕ → Bool
coordinate_right v = leb v 32767

abbrev pub place_right : Point → Bool
place_right p = coordinate_right p.east && coordinate_right p.north

-- 7 of a coordinate, and of a place, that is moved by a displacement
unfoldable pub lands_right : ℕ → ℤ → Bool
lands_right at by = le_z (pos 0) (pos at +ℤ by) && le_z (pos at +ℤ by) (pos 32767)

unfoldable pub shift_right : ℤ → ℤ → Point → Bool
shift_right de dn p = lands_right p.east de && lands_right p.north dn

-- the place moved
abbrev pub shifted : ℤ → ℤ → Point → Point
shifted de dn p = point (nat_abs (pos p.east +ℤ de)) (nat_abs (pos p.north +ℤ dn))

-- the corners that lent words say, east then north
abbrev pub lent_places : List ℕ → List Point
lent_places ws = places_from ws 0 (length ws / 2)

-- the words from k on are 0
unfoldable pub zero_from : List ℕ → ℕ → Bool
zero_from ws k = all (λ v. eqb v 0) (drop k ws)

-- 2: a stored record is one that the tables and questions 7 and 8 allow
unfoldable pub block_right : List ℕ → Bool
block_right ws =
    zero_from ws 0
    || (leb 3 (word ws 0) && leb (word ws 0) 8 && zero_from ws (1 + 2 * word ws 0) && all coordinate_right (drop 1 ws) && convex (corners ws))

unfoldable pub run_right : List ℕ → Bool
run_right ws = zero_from ws 0 || (eqb (word ws 0) 1 && all coordinate_right (drop 1 ws))

-- 13, and 2 of the stored one: the figure is at most 1,000
abbrev pub figure_right : ℕ → Bool
figure_right f = leb f 1000

unfoldable pub records_right : Records → Bool
records_right R =
    all_below 24 (λ n. block_right (block_words R.blocks n)) && all_below 24 (λ m. run_right (run_words R.runs m)) && figure_right (figure_of R.runs)
