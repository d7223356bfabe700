use mathlib.Core.Path.{refl}
use Prim.Native.Nat.{◌^◌, ◌<◌}
use native.Mathlib.Omega.{arith}
use Rattle.search.proofs.Relaxing.{near_told}
use Rattle.search.proofs.ByRowStraights.near.Goals as goal

pub returns : goal.returns
returns c =
    let low : c.near_word.result < 2 ^ 64 = omega (arith, c.near_word.type_inv) in
    near_told _ _ (λ h. c.requires.0.1.each c.args.q h) low c.near_word.ensures refl c.requires.4
