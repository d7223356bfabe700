use mathlib.Core.Path.{◌∙◌}
use Rattle.row_search.proofs.Relaxing.{row_word, corner_word, facing_word, no_word}
use Rattle.row_search.proofs.near_word.Goals as goal

pub returns-then-q-lt3 : goal.returns-then-q-lt3
returns-then-q-lt3 c = search row_word

pub returns-then-mark-lt192 : goal.returns-then-mark-lt192
returns-then-mark-lt192 c = c.bit_at.ensures ∙ search corner_word

pub returns-then-facing : goal.returns-then-facing
returns-then-facing c = search facing_word

pub returns : goal.returns
returns c = search no_word
