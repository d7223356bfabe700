use Rattle.crossings.proofs.Charts.{spot_in_range, north_tells}
use native.Mathlib.Omega.{arith}
use Rattle.crossings.proofs.north_clear.Goals as goal

pub is_clear-requires-clause-ends : goal.is_clear-requires-clause-ends
is_clear-requires-clause-ends c =
    let few = c.requires.2.ys_few in (
      spot_in_range _ _ _ _ c.requires.2 _ _ (omega arith) (omega arith) c.spot.ensures,
      spot_in_range _ _ _ _ c.requires.2 _ _ (omega arith) (omega arith) c.spot-2.ensures,
    )

pub returns : goal.returns
returns c = search north_tells
