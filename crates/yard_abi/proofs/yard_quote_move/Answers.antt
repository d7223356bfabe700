use Rattle.move_quotes.proofs.Moving.{plain_quote}
use Rattle.yard_abi.proofs.yard_quote_move.Goals as goal

pub returns : goal.returns
returns c = rw c.answer.ensures (plain_quote _ _ c.ranges.east c.ranges.north c.quote_move.ensures)
