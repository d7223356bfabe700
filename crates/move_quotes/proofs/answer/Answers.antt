use Rattle.move_quotes.proofs.Asking.{short_answer}
use Rattle.move_quotes.proofs.Moving.{plain_answer}
use Rattle.move_quotes.proofs.answer.Goals as goal

pub returns-then-quote-ne48 : goal.returns-then-quote-ne48
returns-then-quote-ne48 c = short_answer _ _ _ _ _ c.if-quote-ne48.true

pub returns : goal.returns
returns c =
    plain_answer _ _ c.ranges.east c.ranges.north _ _ _ _ c.if-quote-ne48.false c.move_block_answer.ensures
