use Rattle.file_words.proofs.Corners.{StepsTo}
use mathlib.Core.List.{◌++◌}
use Prim.Native.Nat.{◌-◌}
use lib.ListN.{length, get_or, take}
use Rattle.file_words.specs.Words.{step_words}
use Rattle.file_words.proofs.put_steps.Given as goal

abbrev pub invariant-loop-i : goal.invariant-loop-i
invariant-loop-i l = StepsTo l.file l.at (length l.initial.words) (take 2 l.initial.words ++ step_words l.file l.at (length l.initial.words - 2) (get_or l.initial.words 0 0) (get_or l.initial.words 1 0)) l.words l.i
