use mathlib.Core.Path.{refl}
use Rattle.file_words.proofs.Corners.{steps_none, steps_next, steps_all}
use Rattle.file_words.proofs.put_steps.Goals as goal

pub loop-i-init : goal.loop-i-init
loop-i-init c = steps_none _ _ _ _ refl c.requires.0

pub loop-i-preserved : goal.loop-i-preserved
loop-i-preserved c = steps_next _ _ _ _ _ _ c.loop-i.invariant _ c.loop-i-test.true c.stepped.ensures

pub returns : goal.returns
returns c = steps_all _ _ _ _ _ _ c.loop-i.invariant c.loop-i-test.false
