use native.Mathlib.Omega.{arith}
use Rattle.listing.specs.Lines.{labelled}
use Rattle.listing.proofs.Cases.{run_none, run_way, run_no_way}
use Rattle.listing.proofs.Putting.{put_none, put_loose, put_as, put_then}
use Rattle.listing.proofs.put_run.Goals as goal

pub returns-then-state-eq0 : goal.returns-then-state-eq0
returns-then-state-eq0 c = put_loose (omega arith) (put_as (run_none _ _ c.if-state-eq0.true) (put_none (omega arith)))

pub returns-then-state-eq1 : goal.returns-then-state-eq1
unfolding labelled
returns-then-state-eq1 c =
    put_as (run_way _ _ c.if-state-eq0.false c.if-state-eq1.true)
    (put_then c.put_labelled-named.ensures c.put_way.ensures)

pub returns : goal.returns
unfolding labelled
returns c =
    put_loose (omega arith)
    (put_as (run_no_way _ _ c.if-state-eq0.false c.if-state-eq1.false)
    (put_then c.put_labelled-named.ensures c.put_text.ensures))
