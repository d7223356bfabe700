use Rattle.clear_rows.proofs.Sifting.{without_yes, without_no}
use Rattle.clear_rows.proofs.without_if.Goals as goal

pub returns-then-t : goal.returns-then-t
returns-then-t c = search without_yes

pub returns-else-t : goal.returns-else-t
returns-else-t c = search without_no
