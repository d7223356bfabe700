use Rattle.clear_rows.proofs.Sparing.{absent_changed}
use Rattle.clear_rows.proofs.pass_block.Goals as goal

pub returns-then-words-eq0 : goal.returns-then-words-eq0
returns-then-words-eq0 c = search absent_changed
