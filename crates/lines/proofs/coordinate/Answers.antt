use Rattle.lines.specs.Lines.{coordinate}
use borrow.Author.Rules.{rules}
use Rattle.lines.proofs.coordinate.Goals as goal

pub returns-then-east : goal.returns-then-east
unfolding coordinate
returns-then-east c = search rules

pub returns-else-east : goal.returns-else-east
unfolding coordinate
returns-else-east c = search rules
