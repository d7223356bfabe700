use Rattle.curves.proofs.Curves.{widened, moderate}
use Rattle.curves.proofs.share.Goals as goal

pub coordinate-requires : goal.coordinate-requires
coordinate-requires c = rw (c.from.ensures, widened _ c.ranges.numerator) (moderate _ c.ranges.numerator)

pub returns : goal.returns
returns c = rw (c.from.ensures, widened _ c.ranges.numerator) at c.coordinate.ensures
