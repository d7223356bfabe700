-- The loop keeps: the first k words are mirrored.
use native.Mathlib.Omega.{arith}
use Rattle.corner_words.proofs.Mirroring.{mirroring_none, mirroring_next, mirroring_all}
use Rattle.corner_words.proofs.mirror.Goals as goal

pub loop-k-init : goal.loop-k-init
loop-k-init c = search mirroring_none

pub loop-k-preserved : goal.loop-k-preserved
loop-k-preserved c = mirroring_next _ _ _ _ (omega arith) c.loop-k.invariant c.mirror_word.ensures

pub returns : goal.returns
returns c = search mirroring_all
