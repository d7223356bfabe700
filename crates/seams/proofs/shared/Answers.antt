use native.Mathlib.Omega.{arith}
use Rattle.seams.proofs.Joining.{unshared_more, unshared_alone, shared_yes, shared_no}
use Rattle.seams.proofs.shared.Goals as goal
use Rattle.seams.proofs.shared.Goals.{else-is_near-ne0-via-then-is_near-ne0+else-shared_from, else-is_near-ne0-via-else-is_near-ne0}

pub returns-then-shared_from : goal.returns-then-shared_from
returns-then-shared_from c = shared_yes _ _ _ (omega (arith, c.requires.blocks.1.sized)) (c.shared_from.ensures.yes' c.if-shared_from.true)

pub loop-n-preserved : goal.loop-n-preserved
loop-n-preserved c =
    let f = c.loop-n.invariant in
    elim c.else-is_near-ne0.branch [
      | else-is_near-ne0-via-then-is_near-ne0+else-shared_from w ↦ unshared_more _ _ _ f (w.shared_from.ensures.no' w.if-shared_from.false)
      | else-is_near-ne0-via-else-is_near-ne0 w ↦ unshared_alone _ _ _ f (omega (arith, c.requires.blocks.1.sized)) (c.requires.blocks.1.each _ (omega (arith, c.requires.blocks.1.sized)) w.if-is_near-ne0.false)
    ]

pub returns : goal.returns
returns c = shared_no _ _ _ (omega (arith, c.requires.blocks.1.sized)) c.loop-n.invariant
