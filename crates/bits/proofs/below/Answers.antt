-- `bits::below` meets its contract.
use mathlib.Core.Path.{refl}
use native.Mathlib.Omega.{arith}
use Rattle.bits.proofs.Counting.{below_low, below_high}
use Rattle.bits.proofs.below.Goals as goal

pub returns : goal.returns
returns c = (below_low _ _ (omega arith), λ i. below_high _ _ i (omega arith), refl)
