use Rattle.clear_rows.proofs.Sparing.{seen_apart, seen_sifted}
use Rattle.clear_rows.proofs.leave_seams.Goals as goal

pub returns-then-all_apart : goal.returns-then-all_apart
returns-then-all_apart c = search seen_apart

pub returns : goal.returns
returns c = search seen_sifted
