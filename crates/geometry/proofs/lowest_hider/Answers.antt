use native.Mathlib.Omega.{arith}
use Rattle.geometry.proofs.Searching.{none_more, none_between, passed_over, tells_hidden}
use Rattle.geometry.proofs.lowest_hider.Goals as goal

pub returns-then-hides : goal.returns-then-hides
returns-then-hides c =
    let f = c.in-Some.ensures in
    record {
      after = omega (arith, f.after, c.loop-n.invariant.0);
      before = f.before;
      hides = (tells_hidden _ _ _ _ c.hides.ensures).yes' c.if-hides.true;
      lowest = none_between _ _ _ _ c.loop-n.invariant.1 (passed_over _ _ _ _ _ f.passed);
    }

pub loop-n-preserved : goal.loop-n-preserved
loop-n-preserved c =
    let f = c.in-Some.ensures in (
      omega (arith, f.after, c.loop-n.invariant.0),
      none_more _ _ _ (none_between _ _ _ _ c.loop-n.invariant.1 (passed_over _ _ _ _ _ f.passed))
          ((tells_hidden _ _ _ _ c.hides.ensures).no' c.if-hides.false),
    )

pub returns : goal.returns
returns c = none_between _ _ _ _ c.loop-n.invariant.1 (passed_over _ _ _ _ _ c.in_default.ensures)
