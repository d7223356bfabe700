use Rattle.lengths.proofs.Guesses.{guess_above, guess_below}
use Rattle.lengths.proofs.root_up.Goals as goal

pub returns-then-s-n : goal.returns-then-s-n
returns-then-s-n c = search guess_above

pub returns-then-n-w : goal.returns-then-n-w
returns-then-n-w c = search guess_below
