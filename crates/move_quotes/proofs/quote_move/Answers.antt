use mathlib.Core.Path.{refl}
use Rattle.answers.proofs.Answers.{passed, not_none}
use Rattle.move_quotes.proofs.Moving.{plain_quote, quote_sized, quote_asks, moved_upright, quoted}
use Rattle.move_quotes.proofs.quote_move.Goals as goal

pub returns-in_err-answer : goal.returns-in_err-answer
returns-in_err-answer c =
    let h = c.from_residual.ensures in
    plain_quote _ _ (c).ranges.east (c).ranges.north (record { answer = passed _ _ _ h c.in_err-answer.ensures; refused = λ q. refl; done = λ z. absurd (not_none _ _ h z) })

pub move_words-requires : goal.move_words-requires
move_words-requires c =
    let q = quote_asks _ _ _ _ _ c.in_ok-answer.ensures in
    (q.0, q.1, q.2, refl)

pub price_records-requires : goal.price_records-requires
price_records-requires c =
    (moved_upright _ _ _ _ _ c.in_ok-answer.ensures c.move_words.ensures, quote_sized _ _ _ _ _ c.in_ok-answer.ensures)

pub returns : goal.returns
returns c =
    plain_quote _ _ (c).ranges.east (c).ranges.north
    (quoted _ _ _ _ _ c.in_ok-answer.ensures c.move_words.ensures _ c.price_records.ensures)
