-- The 25 words.
use mathlib.Core.Path.{◌≡◌, sym, ap, ◌∙◌}
use mathlib.Core.List.{List, [], ◌∷◌}
use mathlib.Core.Bool.{Bool}
use Prim.Native.Nat.{ℕ, ◌*◌, ◌<◌}
use native.Mathlib.Omega.{arith}
use native.Mathlib.Decide.{dec_lt}
use lib.ListN.{length, set, replicate, length-set, length-append, length-replicate, get_or-append}
use lib.Seq.{get_or_at, get_or-set_same, get_or-set_other, ext_get_or}
use Rattle.geometry.specs.Words.{word}
use Rattle.lists.specs.Lists.{up_to}
use Rattle.lists.specs.inner.Tells.{Tells}
use Rattle.lists.proofs.Telling.{tells_as}
use Rattle.lists.proofs.Values.{up_to_length, up_to_at}
use Rattle.tables.specs.Tables.{route_words}
use Rattle.tables.proofs.Splices.{word_replicate, part_replicate}
use Rattle.totals.specs.Totals.{count, found_length, found_sum, totals_of}
use Rattle.totals.specs.inner.Addable.{Tallied, CopiedTo}
use Rattle.totals.proofs.Counting.{count_none}
use Rattle.totals.proofs.Summing.{sum_zero}

module _ (pairs routes : List ℕ) where
  pub totals_length : length (totals_of pairs routes) ≡ 25
  unfolding totals_of
  totals_length = length-append (up_to 24 (λ n. count n pairs)) (found_sum 24 routes ∷ []) ∙ omega (arith, up_to_length (λ n. count n pairs) 24)

  -- how many pairs name block n
  pub totals_count : (n : ℕ) → n < 24 → word (totals_of pairs routes) n ≡ count n pairs
  unfolding totals_of
  totals_count n l =
      get_or-append (up_to 24 (λ n. count n pairs)) (found_sum 24 routes ∷ []) 0 n (omega (arith, up_to_length (λ n. count n pairs) 24))
      ∙ up_to_at (λ n. count n pairs) 24 0 n l

  -- the sum of the lengths
  pub totals_sum : word (totals_of pairs routes) 24 ≡ found_sum 24 routes
  unfolding totals_of
  totals_sum = get_or_at (up_to 24 (λ n. count n pairs)) (found_sum 24 routes) [] 0 24 (up_to_length (λ n. count n pairs) 24)

  pub totals_are : (t : List ℕ) → length t ≡ 25 → ((n : ℕ) → n < 24 → word t n ≡ count n pairs) → word t 24 ≡ found_sum 24 routes → t ≡ totals_of pairs routes
  totals_are t e c s = ext_get_or 0 t (totals_of pairs routes) (e ∙ sym totals_length) (λ k l. go k (omega arith) (dec_lt k 24))
    where
      go : (k : ℕ) → k < 25 → Dec (k < 24) → word t k ≡ word (totals_of pairs routes) k
      go k l (yes h) = c k h ∙ sym (totals_count k h)
      go k l (no h) = let q : k ≡ 24 = omega arith in rw q (s ∙ sym totals_sum)

-- ---- what the code has written
pub written_all : (pairs routes cs t : List ℕ) (r : ℕ) → Tallied pairs cs → CopiedTo cs t 24 → r ≡ found_sum 24 routes → set t 24 r ≡ totals_of pairs routes
written_all pairs routes cs t r a c e =
    totals_are pairs routes (set t 24 r) (length-set t 24 r ∙ c.sized)
    (λ n l. get_or-set_other t 24 n r 0 (λ q. omega arith) ∙ c.each n l ∙ a.each n (omega arith))
    (get_or-set_same t 24 r 0 (omega (arith, c.sized)) ∙ e)

pub compared : (pairs routes t due : List ℕ) (b : Bool) → due ≡ totals_of pairs routes → Tells (t ≡ due) b → Tells (t ≡ totals_of pairs routes) b
compared pairs routes t due b e = tells_as (λ q. q ∙ e) (λ q. q ∙ sym e)

pub due_length : (pairs routes t due : List ℕ) → length t ≡ 25 → due ≡ totals_of pairs routes → length t ≡ length due
due_length pairs routes t due l e = l ∙ sym (ap length e ∙ totals_length pairs routes)

-- ---- a yard without marks has 25 zeros
pub totals_none : totals_of (replicate 28680 255) (replicate 4728 0) ≡ replicate 25 0
unfolding found_length
totals_none =
    sym
    (totals_are (replicate 28680 255) (replicate 4728 0) (replicate 25 0) (length-replicate {A = ℕ} 25 0)
    (λ n l. word_replicate 25 n 0 (omega arith) ∙ sym (count_none n 28680 255 (λ q. omega arith)))
    (sym (sum_zero (replicate 4728 0) 24 zero_there)))
  where
    zero_there : (k : ℕ) → k < 24 → found_length (route_words (replicate 4728 0) k) ≡ 0
    zero_there k l = rw (part_replicate 4728 (197 * k) 197 0 (omega arith))
