use native.Mathlib.Omega.{arith}
use Rattle.listing.specs.Lines.{labelled}
use Rattle.listing.proofs.Cases.{stop_none, stop_line_lem}
use Rattle.listing.proofs.Putting.{put_none, put_loose, put_as}
use Rattle.listing.proofs.put_stop.Goals as goal

pub returns-then-number-eq0 : goal.returns-then-number-eq0
returns-then-number-eq0 c = put_loose (omega arith) (put_as (stop_none _ _ c.if-number-eq0.true) (put_none (omega arith)))

pub returns : goal.returns
unfolding labelled
returns c = put_as (stop_line_lem _ _ c.if-number-eq0.false) (rw c.from.ensures at c.put_line.ensures)
