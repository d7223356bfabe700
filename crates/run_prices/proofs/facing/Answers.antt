use mathlib.Core.Path.{refl}
use borrow.Author.Tests.{eqb-true, eqb-false}
use Rattle.sight.proofs.Tests.{seen_byte, unseen_byte}
use Rattle.run_prices.proofs.facing.Goals as goal

pub returns : goal.returns
returns c =
    let byte = c.fresh_byte.result in
    record {
      yes' = λ e. (seen_byte _ _ _ _ c.fresh_byte.ensures (eqb-true byte 254 e)).yes' refl;
      no' = λ e. (unseen_byte _ _ _ _ c.fresh_byte.ensures (eqb-false byte 254 e)).no' refl;
    }
