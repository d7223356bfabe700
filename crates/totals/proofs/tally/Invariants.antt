use lib.ListN.{take}
use Rattle.totals.specs.inner.Addable.{Tallied}
use Rattle.totals.proofs.tally.Given as goal

abbrev pub invariant-loop-byte : goal.invariant-loop-byte
invariant-loop-byte l = Tallied (take l.byte-index l.pairs) l.counts
