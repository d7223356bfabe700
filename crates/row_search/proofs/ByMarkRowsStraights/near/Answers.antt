use mathlib.Core.Path.{refl}
use Prim.Native.Nat.{◌^◌, ◌<◌}
use native.Mathlib.Omega.{arith}
use Rattle.row_search.proofs.Relaxing.{near_told}
use Rattle.row_search.proofs.ByMarkRowsStraights.near.Goals as goal

pub returns : goal.returns
returns c =
    let low : c.near_word.result < 2 ^ 64 = omega (arith, c.near_word.type_inv) in
    near_told _ _ _ low c.near_word.ensures refl c.requires.0.0 c.requires.2 c.requires.4
