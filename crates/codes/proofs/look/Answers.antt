-- The loop keeps: no block below n hides the straight, and those whose bit is 0 it is beside or misses.
use native.Mathlib.Omega.{arith}
use Rattle.codes.proofs.Hiding.{look_none, look_beside, look_passed, look_missed, look_touched, look_found, look_all, beside_unhidden}
use Rattle.codes.proofs.look.Goals as goal
use Rattle.codes.proofs.look.Goals.{in-Touches, in-Misses}

pub loop-n-init : goal.loop-n-init
loop-n-init c =
    look_passed _ _ _ _ _ _ _ _ _ (λ k h. beside_unhidden _ _ _ c.requires.coded.0 k _ _ h c.requires.coded.1 c.requires.coded.2 _ _ c.requires.a_value.0 c.requires.a_value.1) c.pass_by-n.ensures
    (look_none _ _ _ _ _ _)

pub loop-n-preserved-then-is_beside : goal.loop-n-preserved-then-is_beside
loop-n-preserved-then-is_beside c =
    let e = c.is_beside.ensures.yes' c.if-is_beside.true in
    look_beside _ _ _ _ _ _ _ _ c.loop-n-test.true e (beside_unhidden _ _ _ c.requires.coded.0 _ _ _ c.loop-n-test.true c.requires.coded.1 c.requires.coded.2 _ _ c.requires.a_value.0 c.requires.a_value.1 e) c.loop-n.invariant

pub loop-n-smaller : goal.loop-n-smaller
loop-n-smaller c = omega (arith, c.pass_by-n-in-loop-n.ensures.after, c.pass_by-n-in-loop-n.ensures.small)

pub loop-n-preserved : goal.loop-n-preserved
loop-n-preserved c =
    look_passed _ _ _ _ _ _ _ _ _ (λ k h. beside_unhidden _ _ _ c.requires.coded.0 k _ _ h c.requires.coded.1 c.requires.coded.2 _ _ c.requires.a_value.0 c.requires.a_value.1) c.pass_by-n-in-loop-n.ensures
    (elim c.match-meets_block.branch [
      | in-Touches w ↦ rw w.opened-is (look_touched _ _ _ _ _ _ _ _ _ c.loop-n-test.true w.in-Touches.ensures w.with_bit-opened.ensures c.loop-n.invariant)
      | in-Misses w ↦ rw w.opened-is (look_missed _ _ _ _ _ _ _ _ c.loop-n-test.true w.in-Misses.ensures c.loop-n.invariant)
    ])

pub returns : goal.returns
returns c = search look_all

pub returns-in-Hides : goal.returns-in-Hides
returns-in-Hides c = look_found _ _ _ _ _ _ _ _ c.loop-n-test.true c.in-Hides.ensures c.loop-n.invariant
