use Rattle.yardfile.proofs.Cases.{body_sized, body_fields}
use borrow.Author.Rules.{rules}
use Rattle.yardfile.proofs.body_size.Goals as goal

pub returns-then-kind-eq1 : goal.returns-then-kind-eq1
returns-then-kind-eq1 c = (search body_sized, search rules)

pub returns : goal.returns
returns c = (search body_fields, search rules)
