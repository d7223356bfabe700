use Rattle.bits.proofs.Counting.{bit_shift}
use Rattle.bits.proofs.bit_at.Goals as goal

pub returns : goal.returns
returns c = bit_shift c.args.b c.args.c
