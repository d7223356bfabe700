use Rattle.curves.proofs.Curves.{curve_of}
use Rattle.curves.proofs.numerator.Goals as goal

pub returns : goal.returns
returns c = search curve_of
