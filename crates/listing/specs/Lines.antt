-- The listing that yardlist prints, byte for byte. Rule 32. What C's write does with the bytes is outside any contract.
use Rattle.std.specs.Prelude.{◌≡◌, List, [], ◌∷◌, ◌++◌, cond, ℕ, zero, suc, ◌+◌, ◌/◌, ◌%◌, min, ltb, eqb, length, take, drop}
use Prim.Native.Char.{code}
use Prim.Native.String.{String}
use Prim.Native.String.{[] as nothing, ◌∷◌ as ◌then◌}
use Rattle.io.specs.Counts.{IsPrefixLen}
use Rattle.geometry.specs.Words.{word}
use Rattle.tables.specs.Tables.{route_words}

-- the bytes of a text in ASCII
abbrev pub bytes : String → List ℕ
bytes nothing = []
bytes (c then cs) = code c ∷ bytes cs

-- the digits of n in base ten with no zero in front, where k are enough
unfoldable pub digits_within : ℕ → ℕ → List ℕ
digits_within zero n = []
digits_within (suc k) n = cond (ltb n 10) ((48 + n) ∷ []) (digits_within k (n / 10) ++ (48 + n % 10) ∷ [])

-- a number in base ten: n + 1 digits are always enough
unfoldable pub decimal : ℕ → List ℕ
decimal n = digits_within (suc n) n

-- a text, then a number
unfoldable pub labelled : String → ℕ → List ℕ
labelled t n = bytes t ++ decimal n

-- the texts of the numbers below n, one after the other
unfoldable pub joined : ℕ → (ℕ → List ℕ) → List ℕ
joined zero f = []
joined (suc n) f = joined n f ++ f n

-- the answer to an edit, which is counted from 1
unfoldable pub edit_line : ℕ → ℕ → List ℕ
edit_line count answer = labelled "edit " count ++ labelled " answer " answer ++ bytes "\n"

-- the first answers, as many as the count says and there are
abbrev pub edit_lines : List ℕ → ℕ → List ℕ
edit_lines answers count = joined (min count (length answers)) (λ i. edit_line (i + 1) (word answers i))

-- the number that the file stopped with, and the position there: no line where the number is 0
unfoldable pub stop_line : ℕ → ℕ → List ℕ
stop_line number at = cond (eqb number 0) [] (labelled "stop " number ++ labelled " at " at ++ bytes "\n")

-- the marks of a route record, as many as its count says and it has room for
abbrev pub mark_texts : List ℕ → List ℕ
mark_texts ws = joined (min (word ws 2) 194) (λ k. labelled " " (word ws (3 + k)))

-- the rest of a run's line where its route record has a route
unfoldable pub way_text : List ℕ → List ℕ
way_text ws = labelled " length " (word ws 1) ++ bytes " marks" ++ mark_texts ws ++ bytes "\n"

-- run m by the state of its route record: no line at 0, a route at 1, no way at any other
unfoldable pub run_line : ℕ → List ℕ → List ℕ
run_line m ws = cond (eqb (word ws 0) 0) [] (labelled "run " m ++ cond (eqb (word ws 0) 1) (way_text ws) (bytes " no way\n"))

-- the 24 runs, lowest first
abbrev pub run_lines : List ℕ → List ℕ
run_lines routes = joined 24 (λ m. run_line m (route_words routes m))

-- all that yardlist prints, by the answers, how many edits were called, the number and position of the stop, and the route table
unfoldable pub listing : List ℕ → ℕ → ℕ → ℕ → List ℕ → List ℕ
listing answers count number at routes = edit_lines answers count ++ stop_line number at ++ run_lines routes

-- the contract of listing: the first bytes of the lent ones are the listing, the rest is kept, and the answer is how many the listing has
pub record Listed (answers : List ℕ) (count number at : ℕ) (routes old new : List ℕ) (r : ℕ) : Type 0 where
  pub counts : IsPrefixLen r new
  pub listed : take r new ≡ listing answers count number at routes
  pub kept : drop r new ≡ drop r old
