use Rattle.listing.specs.Lines.{listing}
use Rattle.listing.proofs.Putting.{put_then, put_listed}
use Rattle.listing.proofs.list.Goals as goal

pub returns : goal.returns
unfolding listing
returns c =
    put_listed _ _ _ _ _ _ _ _ _
    (put_then (put_then c.put_edits-edits_end.ensures c.put_stop-stop_end.ensures) c.put_runs.ensures)
