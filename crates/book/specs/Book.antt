-- The plain book of blocks, runs and the figure, kept from the edits alone. Rules 18, 23 and 24.
use Rattle.std.specs.Prelude.{List, [], ◌∷◌, map, Bool, true, false, ◌&&◌, not, ℕ, zero, suc, ℤ, get_or, set, replicate}
use Rattle.geometry.specs.Words.{Point}
use Rattle.geometry.specs.Convexity.{convex}
use Rattle.records.specs.Questions.{count_right, coordinate_right, place_right, shift_right, shifted, lent_places, figure_right}
use Rattle.lists.specs.Lists.{all}
use Rattle.book.specs.Questions.{Question, ask, first_no, number_right}

-- the seven edits with their arguments; a block's corners come as words, east then north
pub data Edit : Type 0 where
  add_block : ℕ → List ℕ → Edit
  remove_block : ℕ → Edit
  move_block : ℕ → ℤ → ℤ → Edit
  add_run : ℕ → Point → Point → Edit
  remove_run : ℕ → Edit
  move_run : ℕ → Point → Point → Edit
  set_charge : ℕ → Edit

-- 24 places for blocks, each a list of corners, and 24 for runs, each a list of two ends; an empty place has none; and the figure
pub record Book : Type 0 where
  pub blocks : List (List Point)
  pub runs : List (List Point)
  pub figure : ℕ

abbrev pub empty_book : Book
empty_book = record { blocks = replicate 24 []; runs = replicate 24 []; figure = 0 }

-- place n is empty
unfoldable pub free : List (List Point) → ℕ → Bool
free ps n = elim (get_or ps n []) [ [] ↦ true | ◌∷◌ x xs ↦ false ]

-- the questions that an edit asks of a book, in order
unfoldable pub questions : Book → Edit → List Question
questions b (add_block n ws) =
    ask 3 (number_right n) ∷ ask 4 (free b.blocks n) ∷ ask 6 (count_right ws) ∷ ask 7 (all coordinate_right ws) ∷ ask 8 (convex (lent_places ws)) ∷ []
questions b (remove_block n) = ask 3 (number_right n) ∷ ask 5 (not (free b.blocks n)) ∷ []
questions b (move_block n de dn) =
    ask 3 (number_right n) ∷ ask 5 (not (free b.blocks n)) ∷ ask 7 (all (shift_right de dn) (get_or b.blocks n [])) ∷ []
questions b (add_run m p q) = ask 3 (number_right m) ∷ ask 4 (free b.runs m) ∷ ask 7 (place_right p && place_right q) ∷ []
questions b (remove_run m) = ask 3 (number_right m) ∷ ask 5 (not (free b.runs m)) ∷ []
questions b (move_run m p q) = ask 3 (number_right m) ∷ ask 5 (not (free b.runs m)) ∷ ask 7 (place_right p && place_right q) ∷ []
questions b (set_charge f) = ask 13 (figure_right f) ∷ []

-- the book's answer
unfoldable pub answer : Book → Edit → ℕ
answer b e = first_no (questions b e)

-- what an accepted edit leaves at the place that it names; a figure stands in its target
unfoldable pub written : Book → Edit → List Point
written b (add_block n ws) = lent_places ws
written b (remove_block n) = []
written b (move_block n de dn) = map (shifted de dn) (get_or b.blocks n [])
written b (add_run m p q) = p ∷ q ∷ []
written b (remove_run m) = []
written b (move_run m p q) = p ∷ q ∷ []
written b (set_charge f) = []

-- the place that an edit names, or the figure that it sets
pub data Target : Type 0 where
  the_block : ℕ → Target
  the_run : ℕ → Target
  the_figure : ℕ → Target

abbrev pub target : Edit → Target
target (add_block n ws) = the_block n
target (remove_block n) = the_block n
target (move_block n de dn) = the_block n
target (add_run m p q) = the_run m
target (remove_run m) = the_run m
target (move_run m p q) = the_run m
target (set_charge f) = the_figure f

abbrev pub with_block : Book → ℕ → List Point → Book
with_block b n ps = record { blocks = set b.blocks n ps; runs = b.runs; figure = b.figure }

abbrev pub with_run : Book → ℕ → List Point → Book
with_run b m ps = record { blocks = b.blocks; runs = set b.runs m ps; figure = b.figure }

abbrev pub with_figure : Book → ℕ → Book
with_figure b f = record { blocks = b.blocks; runs = b.runs; figure = f }

abbrev pub write : Book → Target → List Point → Book
write b (the_block n) ps = with_block b n ps
write b (the_run m) ps = with_run b m ps
write b (the_figure f) ps = with_figure b f

-- the book after an edit: refused, it stays
unfoldable pub step : Book → Edit → Book
step b e = elim (answer b e) [ zero ↦ write b (target e) (written b e) | suc n ↦ b ]

-- the book after a list of edits, and its answers
unfoldable pub after_all : Book → List Edit → Book
after_all b [] = b
after_all b (e ∷ es) = after_all (step b e) es

unfoldable pub answers : Book → List Edit → List ℕ
answers b [] = []
answers b (e ∷ es) = answer b e ∷ answers (step b e) es
