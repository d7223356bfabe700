-- How many blocks stand, and the number that each way through the questions of a quote ends in.
use mathlib.Core.Path.{◌≡◌, refl, sym, ◌∙◌}
use mathlib.Core.Bool.{Bool, true, false, not, cond, ◌&&◌, and-eq-true_iff}
use mathlib.Core.List.{List}
use mir.Val.{bool_byte}
use Prim.Native.Nat.{ℕ, ◌+◌, ◌*◌, ◌≤◌, ◌<◌}
use native.Mathlib.Omega.{arith}
use native.Mathlib.Numerals.{add-one}
use lib.Dec.{eqb, ltb, leb}
use lib.ListN.{length}
use borrow.Author.Tests.{eq-eqb, ne_eqb, lt-ltb, le-ltb, le-leb, lt-leb, not-true, not-false, eqb-true, ltb-true, leb-true}
use Rattle.geometry.specs.Words.{word}
use Rattle.tables.specs.Tables.{Records, stored}
use Rattle.tables.specs.inner.Fit.{Fit}
use Rattle.records.specs.Questions.{records_right}
use Rattle.records.proofs.Fits.{records_fit}
use Rattle.book.specs.Questions.{first_no, number_right}
use Rattle.book.proofs.Questions.{first_yes}
use Rattle.ducts.specs.Quote.{standing, duct_lengths, duct_answer}

pub standing_none : (blocks : List ℕ) → 0 ≡ standing blocks 0
unfolding standing
standing_none blocks = refl

bit : (t : Bool) → bool_byte t ≡ cond t 1 0
bit true = refl
bit false = refl

pub standing_next : (blocks : List ℕ) (n count r : ℕ) → count ≡ standing blocks n → r ≡ bool_byte (ltb 0 (word blocks (17 * n))) → count + r ≡ standing blocks (n + 1)
unfolding standing
standing_next blocks n count r e f = rw add-one (omega (arith, f, bit (ltb 0 (word blocks (17 * n)))))

pub bit_small : (t : Bool) (r : ℕ) → r ≡ bool_byte t → r ≤ 1
bit_small true r e = omega arith
bit_small false r e = omega arith

module _ (blocks runs : List ℕ) (m : ℕ) (quote crossings : List ℕ) where
  abbrev R : Records
  R = stored blocks runs

  abbrev A : ℕ
  A = duct_answer R m quote crossings

  pub record Long : Type 0 where
    pub blocks_long : length blocks ≡ 408
    pub runs_long : length runs ≡ 121
    pub quote_long : length quote ≡ 3
    pub crossings_long : length crossings ≡ 8712

  lengths_of : duct_lengths R quote crossings ≡ true → Long
  unfolding duct_lengths
  lengths_of e =
      let p = eqb (length blocks) 408 in
      let q = eqb (length runs) 121 in
      let r = eqb (length quote) 3 in
      let a = (and-eq-true_iff (p && q && r) (eqb (length crossings) 8712)).0 e in
      let b = (and-eq-true_iff (p && q) r).0 a.0 in
      let c = (and-eq-true_iff p q).0 b.0 in
      record { blocks_long = eqb-true _ _ c.0; runs_long = eqb-true _ _ c.1; quote_long = eqb-true _ _ b.1; crossings_long = eqb-true _ _ a.1 }

  pub answer_1 : (u : Bool) → u ≡ duct_lengths R quote crossings → not u ≡ true → 1 ≡ A
  unfolding duct_answer first_no
  answer_1 u ue n = rw (sym ue ∙ not-true u n)

  module _ (u : Bool) (ue : u ≡ duct_lengths R quote crossings) (uy : not u ≡ false) where
    lengths_yes : duct_lengths R quote crossings ≡ true
    lengths_yes = sym ue ∙ not-false u uy

    pub in_runs : m < 24 → 5 * m < length runs
    in_runs h = omega (arith, (lengths_of lengths_yes).runs_long)

    pub blocks_sized : length blocks ≡ 408
    blocks_sized = (lengths_of lengths_yes).blocks_long

    pub both_sized : (length blocks ≡ 408) × (length runs ≡ 121)
    both_sized = (blocks_sized, (lengths_of lengths_yes).runs_long)

    pub answer_2 : (t : Bool) → t ≡ records_right R → not t ≡ true → 2 ≡ A
    unfolding duct_answer first_no
    answer_2 t e n = rw (lengths_yes, sym e ∙ not-true t n)

    module _ (t : Bool) (e : t ≡ records_right R) (y : not t ≡ false) where
      right : records_right R ≡ true
      right = sym e ∙ not-false t y

      pub answer_3 : 24 ≤ m → 3 ≡ A
      unfolding duct_answer first_no
      answer_3 h = rw (lengths_yes, right, le-ltb m 24 h)

      module _ (h : m < 24) where
        pub answer_5 : word runs (5 * m) ≡ 0 → 5 ≡ A
        unfolding duct_answer first_no
        answer_5 z = rw (lengths_yes, right, lt-ltb m 24 h, le-ltb 0 (word runs (5 * m)) (omega arith))

        module _ (z : word runs (5 * m) ≡ 0 → ⊥) (s : ℕ) (se : s ≡ standing blocks 24) where
          there : 0 < word runs (5 * m)
          there = positive (word runs (5 * m)) z
            where
              positive : (x : ℕ) → (x ≡ 0 → ⊥) → 0 < x
              positive x n = omega arith

          pub answer_12 : 8 < s → 12 ≡ A
          unfolding duct_answer first_no
          answer_12 k = rw (lengths_yes, right, lt-ltb m 24 h, lt-ltb 0 (word runs (5 * m)) there, lt-leb (standing blocks 24) 8 (omega arith))

          pub answer_0 : s ≤ 8 → 0 ≡ A
          unfolding duct_answer first_no
          answer_0 k = rw (lengths_yes, right, lt-ltb m 24 h, lt-ltb 0 (word runs (5 * m)) there, le-leb (standing blocks 24) 8 (omega arith))

  -- what a quote that is not refused has
  pub record Accepted : Type 0 where
    pub fit : Fit R
    pub number : m < 24
    pub stand : standing blocks 24 ≤ 8
    pub quote_is : length quote ≡ 3
    pub crossings_is : length crossings ≡ 8712

  pub accepted : 0 ≡ A → Accepted
  unfolding duct_answer
  accepted e =
      let a = first_yes 0 (duct_lengths R quote crossings) _ (sym e) in
      let b = first_yes 1 (records_right R) _ a.1 in
      let c = first_yes 2 (number_right m) _ b.1 in
      let d = first_yes 4 (ltb 0 (word runs (5 * m))) _ c.1 in
      let f = first_yes 11 (leb (standing blocks 24) 8) _ d.1 in
      let l = lengths_of a.0 in
      record {
        fit = records_fit R l.blocks_long l.runs_long b.0;
        number = ltb-true m 24 c.0;
        stand = leb-true (standing blocks 24) 8 f.0;
        quote_is = l.quote_long;
        crossings_is = l.crossings_long;
      }
