use Rattle.yardlist.proofs.Printing.{printed}
use Rattle.yardlist.proofs.print.Goals as goal

pub returns-in-Ok : goal.returns-in-Ok
returns-in-Ok c = printed c.start.ensures c.in-Ok.ensures.replayed (rw c.number.ensures at c.list.ensures)

pub returns-in-Err : goal.returns-in-Err
returns-in-Err c = printed c.start.ensures c.in-Err.ensures.replayed (rw c.number-in-Err.ensures at c.list-in-Err.ensures)
