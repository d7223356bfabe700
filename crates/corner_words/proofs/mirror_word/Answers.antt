-- The loop keeps: of word k the bits that are gone from `rest` are turned.
use Rattle.corner_words.proofs.Mirroring.{turning_none, turning_next, turning_all}
use Rattle.corner_words.proofs.mirror_word.Goals as goal

pub loop-rest-init : goal.loop-rest-init
loop-rest-init c = search turning_none

pub loop-rest-preserved : goal.loop-rest-preserved
loop-rest-preserved c = search turning_next

pub returns : goal.returns
returns c = search turning_all
