use borrow.Author.Tests.{not-false}
use native.Mathlib.Omega.{arith}
use Rattle.neighbours.proofs.Answers.{parted_next, parted_all}
use Rattle.neighbours.proofs.is_alone.Goals as goal

pub loop-q-preserved : goal.loop-q-preserved
loop-q-preserved c = parted_next _ _ _ c.loop-q.invariant (c.is_parted.ensures (not-false _ c.if-not-is_parted.false-raw))

pub returns : goal.returns
returns c = λ e. parted_all _ _ _ c.loop-q.invariant (omega arith)
