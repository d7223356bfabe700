-- Questions 1, 2, 3, 5 and 11: the number that each way through them ends in, and what a call that is answered 0 may use.
use mathlib.Core.Path.{◌≡◌, refl, sym, ap, ◌∙◌}
use mathlib.Core.Logic.{◌⊎◌, inl, inr}
use mathlib.Core.Bool.{Bool, true, false}
use mathlib.Core.List.{List, [], ◌∷◌}
use Prim.Native.Nat.{ℕ, ◌*◌, ◌<◌}
use native.Mathlib.Decide.{ℕ_discrete}
use native.Mathlib.Omega.{arith}
use lib.Dec.{ltb}
use lib.ListN.{length}
use borrow.Author.Tests.{ltb-true, lt-ltb, le-ltb}
use Rattle.geometry.specs.Words.{word}
use Rattle.tables.specs.Tables.{Tables, tables, records}
use Rattle.records.specs.Questions.{records_right}
use Rattle.book.specs.Questions.{Question, ask, first_no, lengths_right, number_right}
use Rattle.book.specs.Drawing.{Right}
use Rattle.book.specs.Edits.{Checked}
use Rattle.book.specs.inner.Named.{named}
use Rattle.book.proofs.Questions.{Sized, sized_of, first_yes, first_more}
use Rattle.drawn_routes.specs.Calls.{early, Asked}
use Rattle.std.specs.Prelude.{Result, Ok, Err, IsErr, IsErrAnd}
use Rattle.refusals.specs.declared.Refusal.{Refusal}
use Rattle.refusals.specs.Numbers.{number_of as question, answer_of}
use Rattle.refusals.proofs.Numbers.{number_of_some}

-- questions 1 to 3 of the tables
abbrev first_three : Tables → ℕ → List Question
first_three T m = ask 1 (lengths_right T) ∷ ask 2 (records_right (records T)) ∷ ask 3 (number_right m) ∷ []

abbrev fifth : Tables → ℕ → Question
fifth T m = ask 5 (ltb 0 (word T.runs (5 * m)))

module _ (T : Tables) (m v : ℕ) (e : v ≡ named T m) where
  -- a no among the first three
  pub asked_early : (v ≡ 0 → ⊥) → Asked true T m v
  unfolding early first_no
  asked_early n =
      let f : v ≡ early true T m = e ∙ first_more (first_three T m) (fifth T m ∷ []) (λ z. n (e ∙ z)) in
      record { refused = λ z. f; right = λ z. absurd (n (f ∙ z)) }

  module _ (z : v ≡ 0) where
    passed : (lengths_right T ≡ true) × (records_right (records T) ≡ true) × (number_right m ≡ true)
    passed =
        let one = first_yes 0 (lengths_right T) _ (sym e ∙ z) in
        let two = first_yes 1 (records_right (records T)) _ one.1 in
        (one.0, two.0, (first_yes 2 (number_right m) _ two.1).0)

    pub asked_5 : word T.runs (5 * m) ≡ 0 → Asked true T m 5
    unfolding early first_no
    asked_5 w =
        let f : 5 ≡ early true T m = rw (passed.0, passed.1, passed.2, le-ltb 0 (word T.runs (5 * m)) (omega arith)) in
        record { refused = λ n. f; right = λ n. absurd (omega arith) }

    pub asked_all : (u : ℕ) → (word T.runs (5 * m) ≡ 0 → ⊥) → Checked T u → Asked true T m u
    unfolding early first_no
    asked_all u w c =
        let f : early true T m ≡ 0 = rw (passed.0, passed.1, passed.2, lt-ltb 0 (word T.runs (5 * m)) (omega arith)) in
        record { refused = λ n. absurd (n f); right = λ n. c.fit (rw (passed.0, passed.1)) }

-- the same by the calls' results
pub unnamed : (T : Tables) (m : ℕ) {A : Type 0} (r : Result A Refusal) (e : Refusal) → IsErr r × IsErrAnd r (λ x. x ≡ e) → question e ≡ named T m → Asked true T m (answer_of r)
unnamed T m (Ok x) e h f = absurd h.1
unnamed T m (Err x) e h f = let q : question x ≡ named T m = ap question h.1 ∙ f in asked_early T m (question x) q (λ z. omega (arith, number_of_some x))

module _ (b r p s t : List ℕ) (m : ℕ) (f : 0 ≡ named (tables b r p s t) m) where
  pub in_runs : 5 * m < length r
  in_runs =
      let h = passed (tables b r p s t) m 0 f refl in
      omega (arith, (sized_of (tables b r p s t) h.0).runs, ltb-true m 24 h.2)

  pub named_5 : word r (5 * m) ≡ 0 → Asked true (tables b r p s t) m 5
  named_5 = asked_5 (tables b r p s t) m 0 f refl

  pub named_all : (u : ℕ) → (word r (5 * m) ≡ 0 → ⊥) → Checked (tables b r p s t) u → Asked true (tables b r p s t) m u
  named_all = asked_all (tables b r p s t) m 0 f refl

-- what a call that is answered 0 may use
pub record Accepted (T : Tables) (m : ℕ) : Type 0 where
  pub sized : Sized T
  pub allowed : records_right (records T) ≡ true
  pub below : m < 24
  pub right : Right T

pub accepted : (own : Bool) (T : Tables) (m v : ℕ) → Asked own T m v → v ≡ 0 → Accepted T m
unfolding early
accepted own T m v a z = go (ℕ_discrete (early own T m) 0)
  where
    side : ((v ≡ 0) × Right T) ⊎ ((v ≡ 11) × (Right T → ⊥)) → Right T
    side (inl r) = r.1
    side (inr r) = absurd (omega arith)

    go : Dec (early own T m ≡ 0) → Accepted T m
    go (no n) = absurd (n (sym (a.refused n) ∙ z))
    go (yes e) =
        let one = first_yes 0 own _ e in
        let sizes = first_yes 0 (lengths_right T) _ one.1 in
        let two = first_yes 1 (records_right (records T)) _ sizes.1 in
        let three = first_yes 2 (number_right m) _ two.1 in
        record { sized = sized_of T sizes.0; allowed = two.0; below = ltb-true m 24 three.0; right = side (a.right e) }

-- question 1 of the call's own lists
pub asked_own : (own : Bool) (T : Tables) (m v : ℕ) → own ≡ true → Asked true T m v → Asked own T m v
asked_own own T m v e a = rw e a

pub asked_lists : (own : Bool) (T : Tables) (m : ℕ) → own ≡ false → Asked own T m 1
unfolding early first_no
asked_lists own T m e =
    let f : 1 ≡ early own T m = rw e in
    record { refused = λ n. f; right = λ n. absurd (omega arith) }
