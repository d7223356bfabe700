use Rattle.clear_rows.proofs.Mirroring.{lower_only, mirrored_rows}
use Rattle.clear_rows.proofs.fill_clear.Goals as goal

pub mirror-requires : goal.mirror-requires
mirror-requires c = lower_only _ c.leave_seams.ensures

pub returns : goal.returns
returns c = mirrored_rows _ c.leave_seams.ensures c.mirror.ensures
