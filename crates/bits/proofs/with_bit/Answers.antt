use Rattle.bits.proofs.Counting.{with_is}
use Rattle.bits.proofs.with_bit.Goals as goal

pub returns : goal.returns
returns c = with_is c.args.c c.args.b c.requires
