use Rattle.bits.proofs.Counting.{bit_and_lem}
use Rattle.bits.proofs.both.Goals as goal

pub returns : goal.returns
returns c i = bit_and_lem i c.args.c c.args.d
