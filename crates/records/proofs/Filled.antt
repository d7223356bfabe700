-- The records that an edit writes, filled word by word.
use mathlib.Core.Path.{◌≡◌}
use mathlib.Core.List.{List, ◌∷◌, ◌++◌}
use mathlib.Core.Bool.{true, ◌&&◌}
use Prim.Native.Nat.{ℕ, ◌+◌, ◌*◌, ◌-◌, ◌/◌, ◌%◌, ◌≤◌}
use native.Mathlib.Omega.{arith}
use lib.Dec.{leb, eqb}
use lib.ListN.{length, drop, replicate}
use borrow.Author.Tests.{leb-true, eqb-true}
use Rattle.std.proofs.lemmas.List.{drop-replicate}
use Rattle.tables.specs.Written.{block_record}
use Rattle.tables.proofs.Splices.{words_again, places_length}
use Rattle.records.specs.Questions.{count_right, lent_places}
use Rattle.lists.proofs.Every.{both}

pub record CountFacts (ws : List ℕ) : Type 0 where
  pub low : 6 ≤ length ws
  pub high : length ws ≤ 16
  pub even : length ws % 2 ≡ 0

pub count_facts : (ws : List ℕ) → count_right ws ≡ true → CountFacts ws
unfolding count_right
count_facts ws h =
    let a = both (leb 6 (length ws) && leb (length ws) 16) (eqb (length ws % 2) 0) h in
    let b = both (leb 6 (length ws)) (leb (length ws) 16) a.0 in
    record { low = leb-true 6 _ b.0; high = leb-true _ 16 b.1; even = eqb-true _ 0 a.1 }

-- the count, the lent words and zeros behind them are the record
pub made_record : (ws new : List ℕ) → count_right ws ≡ true → new ≡ ws → length ws / 2 ∷ (new ++ drop (length ws + 1 - 1) (replicate 16 0)) ≡ block_record (lent_places ws)
unfolding block_record
made_record ws new c e =
    let f = count_facts ws c in
    let behind : length ws + 1 - 1 ≡ length ws = omega arith in
    let pairs : 2 * (length ws / 2) ≡ length ws = omega (arith, f.even) in
    rw (e, behind, drop-replicate {X = ℕ} (length ws) 16 0, words_again ws f.even, places_length ws 0 (length ws / 2), pairs)
