-- What the tests of a record's words say of each word.
use mathlib.Core.Path.{◌≡◌, sym, ap, ◌∙◌}
use mathlib.Core.List.{List}
use mathlib.Core.Bool.{true}
use Prim.Native.Nat.{ℕ, ◌+◌, ◌-◌, ◌<◌, ◌≤◌}
use native.Mathlib.Omega.{arith}
use native.Mathlib.Decide.{ℕ_discrete}
use lib.Dec.{eqb}
use lib.ListN.{length, drop, length-drop}
use lib.Seq.{get_or-drop}
use borrow.Author.Tests.{leb-true, eqb-true}
use Rattle.geometry.specs.Words.{word}
use Rattle.geometry.specs.inner.Bounds.{BoundedRecord}
use Rattle.records.specs.Questions.{coordinate_right, zero_from}
use Rattle.lists.specs.Lists.{all}
use Rattle.lists.proofs.Every.{every_at}

pub right_bound : (ws : List ℕ) (k : ℕ) → all coordinate_right ws ≡ true → k < length ws → word ws k ≤ 32767
right_bound ws k h l = leb-true (word ws k) 32767 (every_at coordinate_right ws k 0 h l)

-- a word of the rest of a record
pub rest_bound : (ws : List ℕ) (k : ℕ) → word ws 0 ≤ 32767 → all coordinate_right (drop 1 ws) ≡ true → k < length ws → word ws k ≤ 32767
rest_bound ws k z a l = go (ℕ_discrete k 0)
  where
    go : Dec (k ≡ 0) → word ws k ≤ 32767
    go (yes e) = rw e z
    go (no e) =
        let q : 1 + (k - 1) ≡ k = omega arith in
        let b = right_bound (drop 1 ws) (k - 1) a (omega (arith, length-drop 1 ws)) in
        omega (arith, get_or-drop 1 ws (k - 1) 0, ap (λ (x : ℕ). word ws x) q)

pub block_bounded : (ws : List ℕ) → length ws ≡ 17 → word ws 0 ≤ 8 → all coordinate_right (drop 1 ws) ≡ true → BoundedRecord ws
block_bounded ws l h a = record { sized = l; count = h; coordinates = λ i b. rest_bound ws i (omega arith) a (omega arith) }

pub zero_word : (ws : List ℕ) (from i : ℕ) → zero_from ws from ≡ true → from ≤ i → i < length ws → word ws i ≡ 0
unfolding zero_from
zero_word ws from i z g h =
    let q : from + (i - from) ≡ i = omega arith in
    let e = every_at (λ v. eqb v 0) (drop from ws) (i - from) 0 z (omega (arith, length-drop from ws)) in
    ap (λ (k : ℕ). word ws k) (sym q) ∙ sym (get_or-drop from ws (i - from) 0) ∙ eqb-true _ 0 e
