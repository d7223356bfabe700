-- What the test of a lent record says of the record by its number.
use mathlib.Core.Path.{◌≡◌, sym, ◌∙◌}
use mathlib.Core.List.{List}
use mathlib.Core.Bool.{Bool}
use Prim.Native.Nat.{ℕ, ◌+◌, ◌*◌, ◌-◌}
use native.Mathlib.Omega.{arith}
use lib.ListN.{take, drop}
use Rattle.geometry.proofs.Searching.{part_is}
use Rattle.geometry.specs.Words.{block_words}
use Rattle.tables.specs.Tables.{run_words}
use Rattle.records.specs.Questions.{block_right, run_right}

-- a record that was lent as `&t[17 * n..17 * n + 17]`, or `&t[5 * m..5 * m + 5]`
run_lent : (t : List ℕ) (m : ℕ) → take (5 * m + 5 - 5 * m) (drop (5 * m) t) ≡ run_words t m
run_lent t m = let e : 5 * m + 5 - 5 * m ≡ 5 = omega arith in rw e

pub block_answer : (t : List ℕ) (n : ℕ) (r v : Bool) → r ≡ block_right (take (17 * n + 17 - 17 * n) (drop (17 * n) t)) → r ≡ v → block_right (block_words t n) ≡ v
block_answer t n r v e h = rw (← (part_is t n)) (sym e ∙ h)

pub run_answer : (t : List ℕ) (m : ℕ) (r v : Bool) → r ≡ run_right (take (5 * m + 5 - 5 * m) (drop (5 * m) t)) → r ≡ v → run_right (run_words t m) ≡ v
run_answer t m r v e h = rw (← (run_lent t m)) (sym e ∙ h)
