use Rattle.ducts.proofs.Counting.{answer_1, answer_2, answer_3, answer_5, answer_12, answer_0, in_runs, blocks_sized, both_sized}
use mathlib.Core.Path.{ap}
use mathlib.Core.Bool.{not}
use Rattle.ducts.proofs.answer.Goals as goal

pub returns-then-not-lengths_right : goal.returns-then-not-lengths_right
returns-then-not-lengths_right c = search answer_1

pub records_right-requires : goal.records_right-requires
records_right-requires c = both_sized _ _ c.args.number _ _ _ c.lengths_right.ensures (ap not c.if-not-lengths_right.false)

pub returns-then-not-records_right : goal.returns-then-not-records_right
returns-then-not-records_right c = search answer_2

pub returns-then-number-ge24 : goal.returns-then-number-ge24
returns-then-number-ge24 c = search answer_3

pub bounds-runs-m : goal.bounds-runs-m
bounds-runs-m c = search in_runs

pub returns-then-runs-m-eq0 : goal.returns-then-runs-m-eq0
returns-then-runs-m-eq0 c = search answer_5

pub standing-requires : goal.standing-requires
standing-requires c = search blocks_sized

pub returns-then-standing-gt-MOST_BLOCKS : goal.returns-then-standing-gt-MOST_BLOCKS
returns-then-standing-gt-MOST_BLOCKS c = search answer_12

pub returns : goal.returns
returns c = search answer_0
