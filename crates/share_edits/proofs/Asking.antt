-- The number that each way through the questions before an edit ends in.
use mathlib.Core.Path.{◌≡◌, sym, ◌∙◌}
use mathlib.Core.List.{List, [], ◌∷◌}
use mathlib.Core.Bool.{true, ◌&&◌}
use Prim.Native.Nat.{ℕ}
use lib.Dec.{eqb}
use lib.ListN.{length}
use borrow.Author.Tests.{eqb-true}
use Rattle.lists.proofs.Every.{both}
use Rattle.refusals.specs.declared.Refusal.{Refusal}
use Rattle.refusals.specs.Numbers.{number_of}
use Rattle.tables.specs.Tables.{Tables, tables, records}
use Rattle.records.specs.Questions.{records_right}
use Rattle.book.specs.Questions.{Question, ask, first_no, lengths_right}
use Rattle.book.proofs.Questions.{Sized, sized_of, first_yes, first_more}
use Rattle.shares.specs.Shares.{Terms, terms, lists_right}
use Rattle.answers.proofs.Answers.{some}
use Rattle.share_edits.specs.inner.Over.{over}

-- what passed questions 1 and 2
pub record Lent (T : Tables) (t : Terms) (hs : List ℕ) : Type 0 where
  pub sized : Sized T
  pub right : records_right (records T) ≡ true
  pub lists : lists_right t hs ≡ true
  pub holders : length hs ≡ 24
  pub shares : length t.shares ≡ 4
  pub ceilings : length t.ceilings ≡ 4

module _ (T : Tables) (t : Terms) (hs : List ℕ) (qs : List Question) where
  pub lent : over T t hs qs ≡ 0 → Lent T t hs × (first_no qs ≡ 0)
  unfolding over lists_right
  lent z =
      let q₁ = first_yes 0 _ _ z in
      let q₂ = first_yes 1 _ _ q₁.1 in
      let l = both (lengths_right T) (lists_right t hs) q₁.0 in
      let x = both (eqb (length hs) 24 && eqb (length t.shares) 4) (eqb (length t.ceilings) 4) l.1 in
      let y = both (eqb (length hs) 24) (eqb (length t.shares) 4) x.0 in
      (record { sized = sized_of T l.0; right = q₂.0; lists = l.1; holders = eqb-true _ 24 y.0; shares = eqb-true _ 4 y.1; ceilings = eqb-true _ 4 x.1 }, q₂.1)

  pub unfit : (e : Refusal) → number_of e ≡ over T t hs [] → number_of e ≡ over T t hs qs
  unfolding over
  unfit e f = f ∙ first_more (ask 1 (lengths_right T && lists_right t hs) ∷ ask 2 (records_right (records T)) ∷ []) qs (λ z. some e (f ∙ z))

  pub fit : 0 ≡ over T t hs [] → (w : ℕ) → w ≡ first_no qs → w ≡ over T t hs qs
  unfolding over first_no
  fit f w e =
      let q₁ = first_yes 0 (lengths_right T && lists_right t hs) (ask 2 (records_right (records T)) ∷ []) (sym f) in
      let q₂ = first_yes 1 (records_right (records T)) [] q₁.1 in
      e ∙ rw (q₁.0, q₂.0)

-- what the questions after them read
module _ (b r p s u hs sh ce : List ℕ) (f : 0 ≡ over (tables b r p s u) (terms sh ce) hs []) where
  known : Lent (tables b r p s u) (terms sh ce) hs
  known = (lent (tables b r p s u) (terms sh ce) hs [] (sym f)).0

  pub runs_121 : length r ≡ 121
  runs_121 = known.sized.runs

  pub holders_24 : length hs ≡ 24
  holders_24 = known.holders

  pub shares_4 : length sh ≡ 4
  shares_4 = known.shares

  pub ceilings_4 : length ce ≡ 4
  ceilings_4 = known.ceilings
