use native.Mathlib.Omega.{arith}
use lib.Count.{trailing_le}
use Rattle.codes.proofs.Bytes.{starting, starts_at}
use Rattle.codes.proofs.first.Goals as goal

pub overflow_cast-result : goal.overflow_cast-result
overflow_cast-result c = omega (arith, trailing_le 8 (starting c.args.c))

pub returns : goal.returns
returns c = starts_at c.args.c c.requires.0 c.requires.1
