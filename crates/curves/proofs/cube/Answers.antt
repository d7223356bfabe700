use mathlib.Core.Path.{refl}
use mir.Facts.{Fits-below}
use Rattle.curves.proofs.Curves.{square_small, cube_small}
use Rattle.curves.proofs.cube.Goals as goal

pub overflow_mul-result : goal.overflow_mul-result
overflow_mul-result c = Fits-below tt (square_small _ c.requires)

pub overflow_mul-result-2 : goal.overflow_mul-result-2
overflow_mul-result-2 c = Fits-below tt (cube_small _ c.requires)

pub returns : goal.returns
returns c = (refl, cube_small _ c.requires)
