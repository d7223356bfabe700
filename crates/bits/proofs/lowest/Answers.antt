-- `bits::lowest` meets its contract.
use native.Mathlib.Omega.{arith}
use Rattle.bits.proofs.Counting.{lowest_is}
use Rattle.bits.proofs.lowest.Goals as goal

pub returns : goal.returns
returns c = lowest_is c.args.c (omega arith) c.ranges.c.fits
