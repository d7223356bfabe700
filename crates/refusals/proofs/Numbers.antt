-- No two outcomes have one number, and none that is refused has 0.
use mathlib.Core.Path.{◌≡◌, refl, sym, ap, ◌∙◌}
use Prim.Native.Nat.{ℕ, ◌<◌}
use native.Mathlib.Omega.{arith}
use Rattle.std.specs.Prelude.{cond, eqb}
use Rattle.refusals.specs.declared.Refusal.{Refusal}
use Rattle.refusals.specs.declared.Refusal.TheVariants.{WrongLengths, WrongRecords, NoSuchNumber, Taken, Absent, WrongCount, OffTheYard, NotConvex, NoYardFile, BrokenRecord, OutOfDate, TooManyBlocks, FigureTooHigh, SharesDisagree, AtTheCeiling, PromisedToOthers, StepTooLong, CornerOffTheYard}
use Rattle.refusals.specs.Numbers.{number_of}

abbrev refusal_of : ℕ → Refusal
refusal_of k =
    cond (eqb k 1) WrongLengths (cond (eqb k 2) WrongRecords (cond (eqb k 3) NoSuchNumber (cond (eqb k 4) Taken (cond (eqb k 5) Absent (cond (eqb k 6) WrongCount (cond (eqb k 7) OffTheYard (cond (eqb k 8) NotConvex (cond (eqb k 9) NoYardFile (cond (eqb k 10) BrokenRecord (cond (eqb k 11) OutOfDate (cond (eqb k 12) TooManyBlocks (cond (eqb k 13) FigureTooHigh (cond (eqb k 18) SharesDisagree (cond (eqb k 19) AtTheCeiling (cond (eqb k 20) PromisedToOthers (cond (eqb k 21) StepTooLong (cond (eqb k 22) CornerOffTheYard WrongLengths)))))))))))))))))

back : (e : Refusal) → refusal_of (number_of e) ≡ e
back WrongLengths = refl
back WrongRecords = refl
back NoSuchNumber = refl
back Taken = refl
back Absent = refl
back WrongCount = refl
back OffTheYard = refl
back NotConvex = refl
back NoYardFile = refl
back BrokenRecord = refl
back OutOfDate = refl
back TooManyBlocks = refl
back FigureTooHigh = refl
back SharesDisagree = refl
back AtTheCeiling = refl
back PromisedToOthers = refl
back StepTooLong = refl
back CornerOffTheYard = refl

pub number_of_one : (e f : Refusal) → number_of e ≡ number_of f → e ≡ f
number_of_one e f h = sym (back e) ∙ (ap refusal_of h ∙ back f)

pub number_of_some : (e : Refusal) → 0 < number_of e
number_of_some WrongLengths = omega arith
number_of_some WrongRecords = omega arith
number_of_some NoSuchNumber = omega arith
number_of_some Taken = omega arith
number_of_some Absent = omega arith
number_of_some WrongCount = omega arith
number_of_some OffTheYard = omega arith
number_of_some NotConvex = omega arith
number_of_some NoYardFile = omega arith
number_of_some BrokenRecord = omega arith
number_of_some OutOfDate = omega arith
number_of_some TooManyBlocks = omega arith
number_of_some FigureTooHigh = omega arith
number_of_some SharesDisagree = omega arith
number_of_some AtTheCeiling = omega arith
number_of_some PromisedToOthers = omega arith
number_of_some StepTooLong = omega arith
number_of_some CornerOffTheYard = omega arith
