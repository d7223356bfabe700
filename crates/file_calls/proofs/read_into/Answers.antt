use Rattle.std.proofs.Common.{◌∙◌}
use Rattle.std.proofs.lemmas.Result.{err_from_is_err_and}
use Rattle.file_calls.specs.Reading.{wrong_length}
use Rattle.file_calls.proofs.Items.{read_words, read_refused}
use Rattle.file_calls.proofs.read_into.Goals as goal

pub returns-then-item-ne4 : goal.returns-then-item-ne4
returns-then-item-ne4 c = wrong_length c.if-item-ne4.true

pub returns-in_err-found : goal.returns-in_err-found
returns-in_err-found c =
    let p = err_from_is_err_and c.from_residual.result c.from_residual.ensures.1 in
    rw (p.1, p.2) (read_refused _ _ _ c.if-item-ne4.false _ c.read_from.ensures _ c.in_err-found.was)

pub returns : goal.returns
returns c = read_words _ _ _ c.if-item-ne4.false _ c.read_from.ensures _ _ c.in_ok-found.was (c.copy_from_slice.ensures.after ∙ c.words_of.ensures)
