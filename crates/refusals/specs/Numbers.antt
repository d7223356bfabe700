-- The questions' numbers, as C is told them. Rules 15 and 16.
use Rattle.std.specs.Prelude.{ℕ, Result, Ok, Err}
use Rattle.refusals.specs.declared.Refusal.{Refusal}
use Rattle.refusals.specs.declared.Refusal.TheVariants.{WrongLengths, WrongRecords, NoSuchNumber, Taken, Absent, WrongCount, OffTheYard, NotConvex, NoYardFile, BrokenRecord, OutOfDate, TooManyBlocks, FigureTooHigh, SharesDisagree, AtTheCeiling, PromisedToOthers, StepTooLong, CornerOffTheYard}

-- the number of the question that is answered no
abbrev pub number_of : Refusal → ℕ
number_of WrongLengths = 1
number_of WrongRecords = 2
number_of NoSuchNumber = 3
number_of Taken = 4
number_of Absent = 5
number_of WrongCount = 6
number_of OffTheYard = 7
number_of NotConvex = 8
number_of NoYardFile = 9
number_of BrokenRecord = 10
number_of OutOfDate = 11
number_of TooManyBlocks = 12
number_of FigureTooHigh = 13
number_of SharesDisagree = 18
number_of AtTheCeiling = 19
number_of PromisedToOthers = 20
number_of StepTooLong = 21
number_of CornerOffTheYard = 22

-- what a call answers: 0 where nothing is refused
abbrev pub answer_of : {A : Type 0} → Result A Refusal → ℕ
answer_of (Ok x) = 0
answer_of (Err e) = number_of e
