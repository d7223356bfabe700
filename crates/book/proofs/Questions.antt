-- Question 1 as facts, and questions in order.
use mathlib.Core.Path.{◌≡◌, refl}
use mathlib.Core.Bool.{Bool, true, false, ◌&&◌, cond, and-eq-true_iff}
use mathlib.Core.List.{List, [], ◌∷◌, ◌++◌}
use Prim.Native.Nat.{ℕ, suc}
use native.Mathlib.Omega.{arith}
use lib.Dec.{eqb}
use lib.ListN.{length}
use borrow.Author.Tests.{eqb-true, eq-eqb}
use Rattle.tables.specs.Tables.{Tables, tables, records}
use Rattle.records.specs.Questions.{records_right}
use Rattle.book.specs.Questions.{Question, ask, first_no, lengths_right}
use Rattle.book.specs.Edits.{fitness}

pub record Sized (T : Tables) : Type 0 where
  pub blocks : length T.blocks ≡ 408
  pub runs : length T.runs ≡ 121
  pub pairs : length T.pairs ≡ 28680
  pub routes : length T.routes ≡ 4728
  pub totals : length T.totals ≡ 25

pub sized : (b r p s t : List ℕ) → length b ≡ 408 → length r ≡ 121 → length p ≡ 28680 → length s ≡ 4728 → length t ≡ 25 → Sized (tables b r p s t)
sized b r p s t eb er ep es et = record { blocks = eb; runs = er; pairs = ep; routes = es; totals = et }

pub sized_of : (T : Tables) → lengths_right T ≡ true → Sized T
unfolding lengths_right
sized_of T h =
    let t = (and-eq-true_iff (eqb (length T.blocks) 408 && eqb (length T.runs) 121 && eqb (length T.pairs) 28680 && eqb (length T.routes) 4728) (eqb (length T.totals) 25)).0 h in
    let a = (and-eq-true_iff (eqb (length T.blocks) 408 && eqb (length T.runs) 121 && eqb (length T.pairs) 28680) (eqb (length T.routes) 4728)).0 t.0 in
    let b = (and-eq-true_iff (eqb (length T.blocks) 408 && eqb (length T.runs) 121) (eqb (length T.pairs) 28680)).0 a.0 in
    let c = (and-eq-true_iff (eqb (length T.blocks) 408) (eqb (length T.runs) 121)).0 b.0 in
    record { blocks = eqb-true _ _ c.0; runs = eqb-true _ _ c.1; pairs = eqb-true _ _ b.1; routes = eqb-true _ _ a.1; totals = eqb-true _ _ t.1 }

pub lengths_yes : (T : Tables) → Sized T → lengths_right T ≡ true
unfolding lengths_right
lengths_yes T s = rw (eq-eqb _ _ s.blocks, eq-eqb _ _ s.runs, eq-eqb _ _ s.pairs, eq-eqb _ _ s.routes, eq-eqb _ _ s.totals)

pub lengths_no : (T : Tables) → (Sized T → ⊥) → lengths_right T ≡ false
lengths_no T f = go (lengths_right T) refl
  where
    go : (t : Bool) → lengths_right T ≡ t → lengths_right T ≡ false
    go true e = absurd (f (sized_of T e))
    go false e = e

-- ---- questions in order
pub first_yes : (k : ℕ) (b : Bool) (qs : List Question) → first_no (ask (suc k) b ∷ qs) ≡ 0 → (b ≡ true) × (first_no qs ≡ 0)
unfolding first_no
first_yes k true qs e = (refl, e)
first_yes k false qs e = absurd (omega arith)

-- a no among the first questions is the first no of all
pub first_more : (ps qs : List Question) → (first_no ps ≡ 0 → ⊥) → first_no ps ≡ first_no (ps ++ qs)
unfolding first_no
first_more [] qs n = absurd (n refl)
first_more (p ∷ ps) qs n = go p.passes n (first_more ps qs)
  where
    go : (t : Bool) → (cond t (first_no ps) p.number ≡ 0 → ⊥) → ((first_no ps ≡ 0 → ⊥) → first_no ps ≡ first_no (ps ++ qs))
        → cond t (first_no ps) p.number ≡ cond t (first_no (ps ++ qs)) p.number
    go true n more = more n
    go false n more = refl

-- what questions 1 and 2 ensure
pub record Fitting (T : Tables) : Type 0 where
  pub sized : Sized T
  pub right : records_right (records T) ≡ true

pub fitting : (T : Tables) → fitness T ≡ 0 → Fitting T
fitting T f =
    let a = first_yes 0 (lengths_right T) _ f in
    record { sized = sized_of T a.0; right = (first_yes 1 (records_right (records T)) _ a.1).0 }
