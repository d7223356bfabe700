-- The rows of the table of trial yards, and what each says. Rule 38.
use Rattle.std.specs.Prelude.{◌≡◌, List, [], ◌∷◌, ◌++◌, true, ℕ, suc, ◌-◌, eqb, length, replicate}
use Rattle.lists.specs.Lists.{all}
use Rattle.geometry.specs.Words.{Point, word}
use Rattle.lengths.specs.Length.{length_of}
use Rattle.tables.specs.Tables.{Tables, pair_index, route_words}
use Rattle.records.specs.Questions.{place_right}
use Rattle.book.specs.Book.{Edit, add_block, add_run, set_charge, empty_book, after_all, answers}
use Rattle.book.specs.Drawing.{Drawn}

-- the corners of a yard's blocks, as words, east then north; the first are those of block 0
abbrev pub Blocks : Type 0
Blocks = List (List ℕ)

pub data Row : Type 0 where
  -- among the blocks, the byte of the straight between two places: 254 if clear, 253 in a seam, else the lowest block that hides it
  sight : Blocks → Point → Point → ℕ → Row
  -- the length of the straight between two places
  straight : Point → Point → ℕ → Row
  -- among the blocks, the length and the marks of the route between two places
  way : Blocks → Point → Point → ℕ → List ℕ → Row
  -- the same under a figure
  charged : ℕ → Blocks → Point → Point → ℕ → List ℕ → Row
  -- among the blocks, there is no way from or to a place
  shut : Blocks → Point → Row
  -- the answers to edits of the empty yard
  answered : List Edit → List ℕ → Row

-- the edits that add the blocks, the first as block n
unfoldable pub add_blocks : ℕ → Blocks → List Edit
add_blocks n [] = []
add_blocks n (ws ∷ bs) = add_block n ws ∷ add_blocks (suc n) bs

-- the edits that make a yard: its blocks, and run 0 from p to q
unfoldable pub yard_edits : Blocks → Point → Point → List Edit
yard_edits bs p q = add_blocks 0 bs ++ (add_run 0 p q ∷ [])

-- and those that then set a figure
unfoldable pub charged_edits : ℕ → Blocks → Point → Point → List Edit
charged_edits f bs p q = yard_edits bs p q ++ (set_charge f ∷ [])

-- the book takes every one of the edits; what they leave has a fresh drawing, and P holds of it
pub record Leaves (es : List Edit) (P : Tables → Type 0) : Type 0 where
  pub taken : all (λ r. eqb r 0) (answers empty_book es) ≡ true
  pub drawing : (T : Tables) × Drawn (after_all empty_book es) T
  pub each : (T : Tables) → Drawn (after_all empty_book es) T → P T

-- the byte of run 0's two ends
abbrev pub Byte : ℕ → Tables → Type 0
Byte b T = word T.pairs (pair_index 192 193) ≡ b

-- the route record of run 0: found, with its length and marks; no way
abbrev pub Found : ℕ → List ℕ → Tables → Type 0
Found l us T = route_words T.routes 0 ≡ 1 ∷ l ∷ length us ∷ (us ++ replicate (194 - length us) 0)

abbrev pub NoWay : Tables → Type 0
NoWay T = route_words T.routes 0 ≡ 2 ∷ replicate 196 0

-- what a row says; a shut place has no way wherever in the yard the other end is
unfoldable pub Holds : Row → Type 0
Holds (sight bs p q b) = Leaves (yard_edits bs p q) (Byte b)
Holds (straight p q l) = length_of p q ≡ l
Holds (way bs p q l us) = Leaves (yard_edits bs p q) (Found l us)
Holds (charged f bs p q l us) = Leaves (charged_edits f bs p q) (Found l us)
Holds (shut bs p) = (q : Point) → place_right q ≡ true → Leaves (yard_edits bs p q) NoWay × Leaves (yard_edits bs q p) NoWay
Holds (answered es rs) = answers empty_book es ≡ rs

-- every row of a list holds
unfoldable pub AllHold : List Row → Type 0
AllHold [] = Unit {0}
AllHold (r ∷ rs) = Holds r × AllHold rs
