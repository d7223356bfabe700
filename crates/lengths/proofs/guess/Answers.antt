use Prim.Native.Nat.{◌/◌, ◌^◌, ◌≤◌}
use native.Mathlib.Omega.{arith}
use lib.Count.{count_leading_zeros}
use lib.Pow.{shr_le}
use Rattle.lengths.proofs.Guesses.{zeros_few, start_more}
use Rattle.lengths.proofs.guess.Goals as goal

pub nearer-requires : goal.nearer-requires
nearer-requires c =
    let k = count_leading_zeros 32 c.args.n / 2 in
    let few : k ≤ 14 = omega (arith, zeros_few c.args.n (omega arith) (omega arith)) in
    let less : 27500 / 2 ^ k ≤ 27500 = shr_le 27500 k in
    (omega arith, omega arith, omega (arith, start_more k few), omega (arith, less))
