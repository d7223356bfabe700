use mir.Syntax.{w64}
use mir.ValLaws.{to_z-of_z}
use Rattle.curves.proofs.Quotients.{exact, in_float_lem}
use Rattle.curves.proofs.coordinate.Goals as goal

pub int_to_float-result : goal.int_to_float-result
int_to_float-result c = rw (to_z-of_z w64 _ c.ranges.numerator) (in_float_lem _ c.requires)

pub returns : goal.returns
returns c = rw (to_z-of_z w64 _ c.ranges.numerator) (exact _ c.requires)
