use Rattle.lines.proofs.Lists.{inserting_had, inserting_next, inserting_last}
use borrow.Author.Rules.{rules}
use Rattle.lines.proofs.add_line.Goals as goal

pub returns-then-carried-y : goal.returns-then-carried-y
returns-then-carried-y c = search inserting_had

pub loop-j-preserved : goal.loop-j-preserved
loop-j-preserved c = (search rules, search inserting_next)

pub returns : goal.returns
returns c = search inserting_last
