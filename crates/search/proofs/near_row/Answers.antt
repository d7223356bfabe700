-- The loop keeps: the first k words are right.
use mathlib.Core.Path.{◌≡◌}
use native.Mathlib.Omega.{arith}
use Rattle.search.proofs.Relaxing.{row_none, row_next}
use Rattle.search.proofs.near_row.Goals as goal

pub loop-k-init : goal.loop-k-init
loop-k-init c = (omega arith, search row_none)

pub loop-k-preserved : goal.loop-k-preserved
loop-k-preserved c = (omega arith, row_next _ _ _ _ _ _ c.loop-k.invariant.1 (omega arith) c.adjacent_word.ensures)

pub returns : goal.returns
returns c = let e : c.loop-k.k ≡ 3 = omega arith in rw e at c.loop-k.invariant.1
