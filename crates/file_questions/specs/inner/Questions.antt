-- The numbers of the questions that are put to each record.
use Rattle.std.specs.Prelude.{ℕ}
use Rattle.file_questions.specs.declared.Question.{Question}
use Rattle.file_questions.specs.declared.Question.TheVariants.{Whole, Near, Inside}

abbrev pub number_asked : Question → ℕ
number_asked Whole = 10
number_asked Near = 21
number_asked Inside = 22
