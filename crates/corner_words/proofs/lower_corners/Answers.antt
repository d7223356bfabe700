use Rattle.corner_words.proofs.Marking.{lower_none, lower_all, lower_some}
use Rattle.corner_words.proofs.lower_corners.Goals as goal

pub returns-then-v-low : goal.returns-then-v-low
returns-then-v-low c = search lower_none

pub returns-then-low-v : goal.returns-then-low-v
returns-then-low-v c = search lower_all

pub returns : goal.returns
returns c = search lower_some
