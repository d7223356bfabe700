use native.Mathlib.Omega.{arith}
use Rattle.coordinates.proofs.Scanning.{any_told}
use Rattle.coordinates.proofs.any_past.Goals as goal

pub returns-else-four_past : goal.returns-else-four_past
returns-else-four_past c =
    any_told _ _ _ _ (omega arith) (omega arith) (c.four_past.ensures.no' c.if-four_past.false) c.four_past-else-four_past.ensures
