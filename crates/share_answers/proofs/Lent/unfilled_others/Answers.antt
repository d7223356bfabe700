use Rattle.share_answers.proofs.Loops.{own_within, others_are}
use borrow.Author.Rules.{rules}
use Rattle.share_answers.proofs.Lent.unfilled_others.Goals as goal

pub overflow_sub-result : goal.overflow_sub-result
overflow_sub-result c = search (own_within, rules)

pub returns : goal.returns
returns c = search others_are
