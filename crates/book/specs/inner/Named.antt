-- The questions that an edit of a numbered record begins with.
use Rattle.std.specs.Prelude.{[], ◌∷◌, ℕ}
use Rattle.tables.specs.Tables.{Tables, records}
use Rattle.records.specs.Questions.{records_right}
use Rattle.book.specs.Questions.{ask, first_no, lengths_right, number_right}
use Rattle.book.specs.Book.{Edit, the_block, the_run, the_figure, target}

-- the number that an edit names; the figure's names none, and question 3 takes 0
abbrev pub number_of : Edit → ℕ
number_of e = elim (target e) [ the_block n ↦ n | the_run m ↦ m | the_figure f ↦ 0 ]

-- questions 1 to 3
abbrev pub named : Tables → ℕ → ℕ
named T n = first_no (ask 1 (lengths_right T) ∷ ask 2 (records_right (records T)) ∷ ask 3 (number_right n) ∷ [])
