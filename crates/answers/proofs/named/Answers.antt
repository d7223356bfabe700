use Rattle.answers.proofs.Answers.{passed, named_unfit, named_high, named_none}
use Rattle.answers.proofs.named.Goals as goal

pub returns-in_err-fitness : goal.returns-in_err-fitness
returns-in_err-fitness c = passed _ _ _ c.from_residual.ensures (named_unfit _ _ _ c.in_err-fitness.ensures)

pub returns-then-number-ge24 : goal.returns-then-number-ge24
returns-then-number-ge24 c = search (named_high, c.in_ok-fitness.ensures)

pub returns : goal.returns
returns c = search (named_none, c.in_ok-fitness.ensures)
