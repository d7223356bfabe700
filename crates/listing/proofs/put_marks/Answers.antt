use native.Mathlib.Omega.{arith}
use Rattle.listing.proofs.Putting.{put_joined, put_next, put_all}
use Rattle.listing.proofs.put_marks.Goals as goal

pub loop-k-init : goal.loop-k-init
loop-k-init c = put_joined 21 _ (omega arith)

pub loop-k-preserved : goal.loop-k-preserved
loop-k-preserved c = put_next _ _ c.loop-k.invariant c.put_mark-end.ensures

pub returns : goal.returns
returns c = put_all 21 _ _ _ (omega arith) (omega arith) c.loop-k.invariant
