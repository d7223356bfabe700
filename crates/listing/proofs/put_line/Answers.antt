use Rattle.listing.proofs.Putting.{put_then}
use Rattle.listing.proofs.put_line.Goals as goal

pub returns : goal.returns
returns c =
    put_then (put_then c.put_labelled-first.ensures c.put_labelled-second.ensures)
    c.put_text.ensures
