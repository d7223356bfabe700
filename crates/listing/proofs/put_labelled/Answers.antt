use Rattle.listing.proofs.Putting.{put_then}
use Rattle.listing.proofs.put_labelled.Goals as goal

pub returns : goal.returns
returns c = put_then c.put_text-end.ensures c.put_number.ensures
