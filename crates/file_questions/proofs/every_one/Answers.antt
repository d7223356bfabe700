use Rattle.file_questions.proofs.Asking.{walked_none, walked_room, walked_no, walked_next, walked_end}
use borrow.Author.Rules.{rules}
use Rattle.file_questions.proofs.every_one.Goals as goal

pub loop-at-init : goal.loop-at-init
loop-at-init c = search walked_none

pub passes-requires : goal.passes-requires
passes-requires c = (search rules, search rules, search walked_room)

pub returns-then-not-passes : goal.returns-then-not-passes
returns-then-not-passes c = search walked_no

pub loop-at-preserved : goal.loop-at-preserved
loop-at-preserved c = search walked_next

pub returns : goal.returns
returns c = search walked_end
