-- What the table of totals holds. Rule 44.
use Rattle.std.specs.Prelude.{List, [], ◌∷◌, ◌++◌, cond, ℕ, zero, suc, ◌+◌, eqb}
use Rattle.geometry.specs.Words.{word}
use Rattle.lists.specs.Lists.{up_to}
use Rattle.tables.specs.Tables.{route_words}

-- how many of the bytes are n
unfoldable pub count : ℕ → List ℕ → ℕ
count n [] = 0
count n (b ∷ bs) = cond (eqb b n) 1 0 + count n bs

-- what a route record adds to the sum: its length where a route is found
unfoldable pub found_length : List ℕ → ℕ
found_length ws = cond (eqb (word ws 0) 1) (word ws 1) 0

-- the summed lengths of the found runs below m
unfoldable pub found_sum : ℕ → List ℕ → ℕ
found_sum zero routes = 0
found_sum (suc m) routes = found_sum m routes + found_length (route_words routes m)

-- the 25 words of a pair table and a route table, right or wrong: how many bytes are each block's number, and the sum
unfoldable pub totals_of : List ℕ → List ℕ → List ℕ
totals_of pairs routes = up_to 24 (λ n. count n pairs) ++ (found_sum 24 routes ∷ [])
