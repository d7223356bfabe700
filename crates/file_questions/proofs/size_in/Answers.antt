use Rattle.file_questions.proofs.Asking.{in_block, in_plain}
use borrow.Author.Rules.{rules}
use Rattle.file_questions.proofs.size_in.Goals as goal

pub returns-then-file-at-eq1 : goal.returns-then-file-at-eq1
returns-then-file-at-eq1 c = (search in_block, search rules)

pub returns-else-file-at-eq1 : goal.returns-else-file-at-eq1
returns-else-file-at-eq1 c = (search in_plain, search rules)
