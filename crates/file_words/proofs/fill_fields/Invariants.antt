use Rattle.file_words.proofs.Corners.{WordsTo}
use lib.ListN.{length}
use Rattle.file_words.proofs.fill_fields.Given as goal

abbrev pub invariant-loop-i : goal.invariant-loop-i
invariant-loop-i l = WordsTo l.file l.at (length l.initial.words) l.words l.i
