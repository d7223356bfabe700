-- What C is told of a call determines its outcome: no two outcomes have one number.
use mathlib.Core.Path.{◌≡◌, refl, sym, ap}
use Prim.Native.Nat.{ℕ, ◌<◌}
use native.Mathlib.Omega.{arith}
use Rattle.std.specs.Prelude.{Result, Ok, Err}
use Rattle.refusals.specs.declared.Refusal.{Refusal}
use Rattle.refusals.specs.Numbers.{number_of, answer_of}
use Rattle.refusals.proofs.Numbers.{number_of_one, number_of_some}

pub answer_one : (r s : Result (Unit {0}) Refusal) → answer_of r ≡ answer_of s → r ≡ s
answer_one (Ok x) (Ok y) h = refl
answer_one (Ok x) (Err f) h = absurd (omega (arith, h, number_of_some f))
answer_one (Err e) (Ok y) h = absurd (omega (arith, h, number_of_some e))
answer_one (Err e) (Err f) h = ap Err (number_of_one e f h)
