use Rattle.convert.proofs.Outcomes.{into_wrong, size_small, into_done}
use borrow.Author.Rules.{rules}
use Rattle.convert.proofs.lengthen_into.Goals as goal

pub returns-then-words-ne1 : goal.returns-then-words-ne1
returns-then-words-ne1 c = search into_wrong

pub put_size-requires : goal.put_size-requires
put_size-requires c = (search rules, search size_small)

pub returns : goal.returns
returns c = search into_done
