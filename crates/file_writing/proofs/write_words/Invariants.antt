use Rattle.file_writing.proofs.Writing.{WordsOut}
use Rattle.file_writing.proofs.write_words.Given as goal

abbrev pub invariant-loop-word : goal.invariant-loop-word
invariant-loop-word l = WordsOut l.words l.initial.out l.out l.to l.at l.word-index
