-- The number that each way through the questions of a quote ends in, and what a quote that is not refused may lean on.
use mathlib.Core.Path.{◌≡◌, refl, sym, ◌∙◌}
use mathlib.Core.Bool.{Bool, true, false, not, ◌&&◌, and-eq-true_iff}
use mathlib.Core.List.{List}
use Prim.Native.Nat.{ℕ, ◌*◌, ◌<◌}
use native.Mathlib.Omega.{arith}
use lib.Dec.{eqb, ltb}
use lib.ListN.{length}
use borrow.Author.Tests.{eq-eqb, lt-ltb, not-false, eqb-true, ltb-true}
use Rattle.geometry.specs.Words.{word, block_words, corners}
use Rattle.tables.specs.Tables.{Records, stored}
use Rattle.records.specs.Questions.{records_right}
use Rattle.records.proofs.Fits.{records_fit, block_allowed}
use Rattle.records.proofs.Places.{place_convex, block_place}
use Rattle.book.specs.Questions.{first_no, number_right}
use Rattle.book.proofs.Questions.{first_yes}
use Rattle.sight.specs.inner.Sight.{Sound}
use Rattle.counter.specs.Quote.{quote_lengths, quote_answer}

-- records that question 2 allows are what the test of a straight asks
pub records_sound : (R : Records) → length R.blocks ≡ 408 → length R.runs ≡ 121 → records_right R ≡ true → Sound R
records_sound R b r e =
    record {
      fit = records_fit R b r e;
      turns = λ n l. place_convex (corners (block_words R.blocks n)) (block_place (block_words R.blocks n) (block_allowed R b r e n l));
    }

module _ (blocks runs : List ℕ) (m : ℕ) (route : List ℕ) where
  abbrev R : Records
  R = stored blocks runs

  abbrev A : ℕ
  A = quote_answer R m route

  pub record Long : Type 0 where
    pub blocks_long : length blocks ≡ 408
    pub runs_long : length runs ≡ 121
    pub route_long : length route ≡ 197

  pub long : length blocks ≡ 408 → length runs ≡ 121 → length route ≡ 197 → Long
  long a b c = record { blocks_long = a; runs_long = b; route_long = c }

  lengths_yes : Long → quote_lengths R route ≡ true
  unfolding quote_lengths
  lengths_yes l = rw (eq-eqb _ _ l.blocks_long, eq-eqb _ _ l.runs_long, eq-eqb _ _ l.route_long) refl

  lengths_of : quote_lengths R route ≡ true → Long
  unfolding quote_lengths
  lengths_of e =
      let p = eqb (length blocks) 408 in
      let q = eqb (length runs) 121 in
      let a = (and-eq-true_iff (p && q) (eqb (length route) 197)).0 e in
      let b = (and-eq-true_iff p q).0 a.0 in
      long (eqb-true _ _ b.0) (eqb-true _ _ b.1) (eqb-true _ _ a.1)

  module _ (l : Long) where
    module _ (t : Bool) (e : t ≡ records_right R) (y : not t ≡ false) where
      right : records_right R ≡ true
      right = sym e ∙ not-false t y

      pub answer_0 : m < 24 → (word runs (5 * m) ≡ 0 → ⊥) → 0 ≡ A
      unfolding quote_answer first_no
      answer_0 h z = rw (lengths_yes l, right, lt-ltb m 24 h, lt-ltb 0 (word runs (5 * m)) (positive (word runs (5 * m)) z))
        where
          positive : (x : ℕ) → (x ≡ 0 → ⊥) → 0 < x
          positive x n = omega arith

  -- what a quote that is not refused has
  pub record Accepted : Type 0 where
    pub sound : Sound R
    pub number : m < 24
    pub sized : length route ≡ 197
    pub present : 0 < word runs (5 * m)

  pub accepted : 0 ≡ A → Accepted
  unfolding quote_answer
  accepted e =
      let a = first_yes 0 (quote_lengths R route) _ (sym e) in
      let b = first_yes 1 (records_right R) _ a.1 in
      let c = first_yes 2 (number_right m) _ b.1 in
      let d = first_yes 4 (ltb 0 (word runs (5 * m))) _ c.1 in
      let l = lengths_of a.0 in
      record {
        sound = records_sound R l.blocks_long l.runs_long b.0;
        number = ltb-true m 24 c.0;
        sized = l.route_long;
        present = ltb-true 0 (word runs (5 * m)) d.0;
      }
