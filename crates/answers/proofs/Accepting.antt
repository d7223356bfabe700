-- An edit's answer, once known: refused, the contract is met by the tables as they were; else by those that the edit leaves.
use mathlib.Core.Path.{◌≡◌, refl, sym, ◌∙◌, subst}
use mathlib.Core.Bool.{true}
use Prim.Native.Nat.{ℕ}
use lib.IntN.{ℤ}
use mir.Syntax.{w16}
use mir.Val.{SFits, to_z, of_z}
use mir.ValLaws.{to_z-of_z}
use Rattle.std.specs.Prelude.{Result, IsErr, IsErrAnd}
use Rattle.refusals.specs.declared.Refusal.{Refusal}
use Rattle.refusals.specs.Numbers.{number_of, answer_of}
use Rattle.tables.specs.Tables.{Tables, records}
use Rattle.tables.specs.inner.Fit.{Fit}
use Rattle.records.specs.Questions.{records_right}
use Rattle.records.proofs.Fits.{records_fit}
use Rattle.book.specs.Questions.{first_no, lengths_right}
use Rattle.book.specs.Book.{Edit, move_block, target, questions, written}
use Rattle.book.specs.Edits.{book_of, answer_over, Edited, Called}
use Rattle.book.proofs.Questions.{Sized, sized_of, first_yes}
use Rattle.answers.proofs.Answers.{passed, not_none}

-- what an accepted edit knows of the tables
pub record Ready (T : Tables) : Type 0 where
  pub sized : Sized T
  pub right : records_right (records T) ≡ true
  pub fit : Fit (records T)

module _ (T : Tables) (e : Edit) where
  pub refused : {A : Type 0} (r : Result A Refusal) (x : Refusal) → IsErr r × IsErrAnd r (λ y. y ≡ x) → number_of x ≡ answer_over T e → Called e T (answer_of r) T
  refused r x h f = record { answer = passed r x _ h f; refused = λ q. refl; done = λ z. absurd (not_none r x h z) }

  module _ (f : 0 ≡ answer_over T e) where
    granted : (lengths_right T ≡ true) × (records_right (records T) ≡ true) × (first_no (questions (book_of (records T)) e) ≡ 0)
    unfolding answer_over
    granted =
        let a = first_yes 0 (lengths_right T) _ (sym f) in
        let b = first_yes 1 (records_right (records T)) _ a.1 in
        (a.0, b.0, b.1)

    pub own : first_no (questions (book_of (records T)) e) ≡ 0
    own = granted.2

    pub ready : Ready T
    ready =
        let s = sized_of T granted.0 in
        record { sized = s; right = granted.1; fit = records_fit (records T) s.blocks s.runs granted.1 }

    pub done : (T' : Tables) → Edited (target e) T (written (book_of (records T)) e) T' → Called e T 0 T'
    done T' b = record { answer = f; refused = λ q. absurd (q refl); done = λ q. b }

-- a displacement goes through its bits wherever it is handed on
pub plain_move : (T T' : Tables) (n r : ℕ) (de dn : ℤ) → SFits w16 de → SFits w16 dn
    → Called (move_block n (to_z w16 (of_z w16 de)) (to_z w16 (of_z w16 dn))) T r T' → Called (move_block n de dn) T r T'
plain_move T T' n r de dn fe fn c =
    subst (λ (d : ℤ). Called (move_block n de d) T r T') (to_z-of_z w16 dn fn)
    (subst (λ (d : ℤ). Called (move_block n d (to_z w16 (of_z w16 dn))) T r T') (to_z-of_z w16 de fe) c)
