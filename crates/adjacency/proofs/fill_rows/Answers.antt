-- The loop keeps: the words before k say which corners are near.
use mathlib.Core.Path.{refl, ◌∙◌}
use native.Mathlib.Omega.{arith}
use Rattle.adjacency.proofs.Words.{rows_next}
use Rattle.adjacency.proofs.fill_rows.Goals as goal

pub loop-k-init : goal.loop-k-init
loop-k-init c = let r = c.fill_corners.ensures in record { sized = refl; each = r.each }

pub loop-k-preserved : goal.loop-k-preserved
loop-k-preserved c = search rows_next

pub returns : goal.returns
returns c = let x = c.loop-k.invariant in record { sized = x.sized ∙ c.fill_corners.ensures.sized; each = λ k l. x.each k (omega arith) }
