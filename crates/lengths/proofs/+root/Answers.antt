-- Half of the root is that of the fourth part, which is small: its square and a step more fits.
use Rattle.std.proofs.Common.{arith}
use Rattle.lengths.proofs.Squares.{quarter_small, quarter_square}
use Rattle.lengths.proofs.+root.Goals as goal

pub overflow_mul-s : goal.overflow_mul-s
overflow_mul-s t c =
    omega (arith, quarter_square _ (quarter_small c.args.n c.root-r.result c.root-r.ensures (omega arith)))
