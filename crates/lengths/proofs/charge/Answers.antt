use Rattle.lengths.proofs.Charges.{charge_free, charge_larger}
use Rattle.lengths.proofs.charge.Goals as goal

pub returns-then-length-eq0 : goal.returns-then-length-eq0
returns-then-length-eq0 c = search charge_free

pub returns-else-length-eq0 : goal.returns-else-length-eq0
returns-else-length-eq0 c = search charge_larger
