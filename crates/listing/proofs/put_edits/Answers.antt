use native.Mathlib.Omega.{arith}
use Rattle.listing.proofs.Putting.{put_joined, put_next, put_all}
use Rattle.listing.proofs.put_edits.Goals as goal

pub loop-i-init : goal.loop-i-init
loop-i-init c = put_joined 54 _ (omega arith)

pub loop-i-preserved : goal.loop-i-preserved
loop-i-preserved c = put_next _ _ c.loop-i.invariant c.put_edit-end.ensures

pub returns : goal.returns
returns c = put_all 54 _ _ _ (omega arith) (omega arith) c.loop-i.invariant
