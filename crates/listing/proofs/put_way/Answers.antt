use Rattle.listing.specs.Lines.{labelled, way_text}
use Rattle.listing.proofs.Putting.{put_then}
use Rattle.listing.proofs.put_way.Goals as goal

pub returns : goal.returns
unfolding labelled way_text
returns c =
    put_then
    (put_then
    (put_then (rw c.from.ensures at c.put_labelled-measured.ensures) c.put_text-started.ensures)
    c.put_marks-marked.ensures)
    c.put_text.ensures
