use mathlib.Core.Path.{refl}
use Rattle.file_words.proofs.Corners.{words_none, words_next, words_all}
use Rattle.file_words.proofs.fill_fields.Goals as goal

pub loop-i-init : goal.loop-i-init
loop-i-init c = words_none _ _ _ _ refl

pub loop-i-preserved : goal.loop-i-preserved
loop-i-preserved c = words_next _ _ _ _ _ _ c.loop-i-test.true c.field.ensures c.loop-i.invariant

pub returns : goal.returns
returns c = words_all _ _ _ _ _ c.loop-i-test.false c.loop-i.invariant
