use Rattle.search.proofs.Relaxing.{row_base, first_base}
use Rattle.search.proofs.near_base.Goals as goal

pub returns-then-q-lt3 : goal.returns-then-q-lt3
returns-then-q-lt3 c = search row_base

pub returns : goal.returns
returns c = search first_base
