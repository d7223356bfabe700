use borrow.Author.Rules.{rules}
use native.Mathlib.Omega.{arith}
use Rattle.sweeps.proofs.Passing.{line_none, line_next}
use Rattle.sweeps.proofs.line_key.Goals as goal

pub loop-k-init : goal.loop-k-init
loop-k-init c = (omega arith, search line_none)

pub loop-k-preserved : goal.loop-k-preserved
loop-k-preserved c = (search rules, search line_next)
