use borrow.Author.Rules.{rules}
use Rattle.totals.proofs.Counting.{zeros, copied}
use Rattle.totals.proofs.Totals.{written_all}
use Rattle.totals.proofs.write_totals.Goals as goal

pub tally-requires : goal.tally-requires
tally-requires c = (search rules, zeros)

pub returns : goal.returns
returns c =
    let t = c.tally.ensures in
    written_all _ _ _ _ _ t (copied _ _ _ t.sized c.requires.2 c.copy_from_slice.ensures.after) c.found_sum.ensures
