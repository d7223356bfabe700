use Rattle.clear_rows.proofs.Sparing.{first_absent, first_there}
use Rattle.clear_rows.proofs.first_word.Goals as goal

pub returns-then-not-is_present : goal.returns-then-not-is_present
returns-then-not-is_present c = search first_absent

pub returns : goal.returns
returns c = search first_there
