use mathlib.Core.Path.{refl}
use native.Mathlib.Omega.{arith}
use Rattle.search.proofs.Parts.{exchanged}
use Rattle.search.proofs.swap.Goals as goal

pub returns : goal.returns
returns c =
    record {
      list = exchanged _ _ _ _ (omega arith) (omega arith) (omega arith) (omega arith) c.requires.i_value.0 c.requires.i_value.1;
      sums = refl;
    }
