use native.Mathlib.Omega.{arith}
use lib.Count.{trailing_le}
use Rattle.codes.proofs.Bytes.{ending, ends_at}
use Rattle.codes.proofs.after.Goals as goal

pub overflow_cast-result : goal.overflow_cast-result
overflow_cast-result c = omega (arith, trailing_le 8 (ending c.args.c))

pub overflow_add-result : goal.overflow_add-result
overflow_add-result c = omega (arith, trailing_le 8 (ending c.args.c))

pub returns : goal.returns
returns c = ends_at c.args.c c.requires.0 c.requires.1
