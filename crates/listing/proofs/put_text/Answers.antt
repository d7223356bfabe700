use Rattle.listing.proofs.Putting.{put_copied}
use Rattle.listing.proofs.put_text.Goals as goal

pub returns : goal.returns
returns c = put_copied _ _ _ _ c.requires c.copy_from_slice.ensures.after
