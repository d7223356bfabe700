use mathlib.Core.Path.{sym, ◌∙◌}
use Rattle.search.proofs.Relaxing.{row_word, first_word, no_word}
use Rattle.search.proofs.near_word.Goals as goal

pub returns-then-q-lt3 : goal.returns-then-q-lt3
returns-then-q-lt3 c = search row_word

pub returns-then-pair_byte : goal.returns-then-pair_byte
returns-then-pair_byte c = first_word _ _ _ _ _ c.if-q-lt3.false (sym c.pair_byte.ensures ∙ c.if-pair_byte.true)

pub returns : goal.returns
returns c = no_word _ _ _ _ _ c.if-q-lt3.false (λ e. c.if-pair_byte.false (c.pair_byte.ensures ∙ e))
