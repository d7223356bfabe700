use Rattle.answers.proofs.Accepting.{plain_move}
use Rattle.yard_abi.proofs.yard_move_block.Goals as goal

pub returns : goal.returns
returns c = rw c.answer.ensures (plain_move _ _ _ _ _ _ c.ranges.east c.ranges.north c.move_block.ensures)
