-- Every question but 7 once answered yes, what the plain edit leaves is the whole contract of the call.
use mathlib.Core.Path.{◌≡◌, refl, sym, ◌∙◌, subst}
use mathlib.Core.List.{List, [], ◌∷◌}
use mathlib.Core.Bool.{true, false, ◌&&◌}
use Prim.Native.Nat.{ℕ, ◌<◌}
use native.Mathlib.Decide.{ℕ_discrete}
use native.Mathlib.Omega.{arith}
use lib.ListN.{length, set}
use borrow.Author.Tests.{lt-ltb, eq-eqb}
use Rattle.std.specs.Prelude.{Result, IsErr, IsErrAnd}
use Rattle.refusals.specs.declared.Refusal.{Refusal}
use Rattle.refusals.specs.Numbers.{number_of, answer_of}
use Rattle.geometry.specs.Words.{Point, word}
use Rattle.tables.specs.Tables.{Tables, records}
use Rattle.records.specs.Questions.{place_right}
use Rattle.book.specs.Questions.{Question, ask, first_no}
use Rattle.book.specs.Book.{add_run, remove_run, move_run, free, questions}
use Rattle.book.specs.Edits.{book_of, answer_over, Called}
use Rattle.book.proofs.Questions.{lengths_yes, first_yes, first_more}
use Rattle.answers.proofs.Answers.{passed, some}
use Rattle.shares.specs.Shares.{Terms, shares_right, below_ceiling, spares_others}
use Rattle.shares.specs.Calls.{EditFor, add_run_for, remove_run_for, move_run_for, plain, names_right, questions_for, answer_over_for, holders_after, CalledFor}
use Rattle.shares.proofs.Going.{names, own_run_lem}
use Rattle.share_answers.specs.inner.Asked.{run_places, add_asked, own_asked}
use Rattle.share_edits.specs.inner.Over.{over}
use Rattle.share_edits.proofs.Asking.{Lent, lent}

-- the run table says the same places whatever the blocks are
places : (T : Tables) → run_places T.runs ≡ (book_of (records T)).runs
unfolding book_of
places T = refl

module _ (d : EditFor) (t : Terms) (T : Tables) (hs : List ℕ) where
  turned_down : (v : ℕ) → v ≡ answer_over_for T t hs d → (v ≡ 0 → ⊥) → CalledFor d t T hs v T hs
  turned_down v f n = record { answer = f; refused = λ q. (refl, refl); done = λ z. absurd (n z) }

  -- the plain edit answers as the call in a contractor's name does
  module _ (same : answer_over T (plain d) ≡ answer_over_for T t hs d) (w : ℕ) (T' : Tables) (c : Called (plain d) T w T') where
    plain_refused : (w ≡ 0 → ⊥) → CalledFor d t T hs w T' hs
    plain_refused n = record { answer = c.answer ∙ same; refused = λ q. (c.refused n, refl); done = λ z. absurd (n z) }

    plain_done : w ≡ 0 → CalledFor d t T hs w T' (holders_after d hs)
    plain_done z =
        record {
          answer = c.answer ∙ same;
          refused = λ q. absurd (q z);
          done = λ q. (subst (λ (r : ℕ). Called (plain d) T r T') z c, refl);
        }

-- what questions 1, 2, 18 and 3 ensure
record Named (T : Tables) (t : Terms) (hs : List ℕ) (c m : ℕ) : Type 0 where
  fits : Lent T t hs
  right : shares_right (book_of (records T)).runs t hs ≡ true
  contractor : c < 4
  number : m < 24

module _ (T : Tables) (t : Terms) (hs : List ℕ) (c m : ℕ) where
  named : (qs : List Question) → over T t hs (ask 18 (shares_right (book_of (records T)).runs t hs) ∷ ask 3 (names_right c m) ∷ qs) ≡ 0
      → Named T t hs c m × (first_no qs ≡ 0)
  named qs z =
      let l = lent T t hs _ z in
      let q₁₈ = first_yes 17 _ _ l.1 in
      let q₃ = first_yes 2 _ _ q₁₈.1 in
      let n = names c m q₃.0 in
      (record { fits = l.0; right = q₁₈.0; contractor = n.0; number = n.1 }, q₃.1)

  module _ (v : ℕ) (f : v ≡ over T t hs (add_asked (run_places T.runs) t hs c m)) where
    add_number : v ≡ over T t hs (add_asked (book_of (records T)).runs t hs c m)
    add_number = rw (← places T) f

    pub add_refused : (p q : Point) → (v ≡ 0 → ⊥) → CalledFor (add_run_for c m p q) t T hs v T hs
    unfolding over add_asked answer_over_for questions_for
    add_refused p q n =
        turned_down (add_run_for c m p q) t T hs v
        (add_number ∙ first_more (ask 1 _ ∷ ask 2 _ ∷ add_asked (book_of (records T)).runs t hs c m) (ask 7 (place_right p && place_right q) ∷ []) (λ z. n (add_number ∙ z))) n

  module _ (f : 0 ≡ over T t hs (add_asked (run_places T.runs) t hs c m)) where
    add_yes : Named T t hs c m × (free (book_of (records T)).runs m ≡ true) × (below_ceiling t hs c ≡ true) × (spares_others (book_of (records T)).runs t hs c ≡ true)
    unfolding add_asked
    add_yes =
        let k = named _ (sym (add_number 0 f)) in
        let q₄ = first_yes 3 _ _ k.1 in
        let q₁₉ = first_yes 18 _ _ q₄.1 in
        (k.0, q₄.0, q₁₉.0, (first_yes 19 _ _ q₁₉.1).0)

    pub add_contractor : c < 4
    add_contractor = add_yes.0.contractor

    pub add_in : m < length hs
    add_in = omega (arith, add_yes.0.number, add_yes.0.fits.holders)

    module _ (p q : Point) where
      add_same : answer_over T (add_run m p q) ≡ answer_over_for T t hs (add_run_for c m p q)
      unfolding answer_over questions answer_over_for questions_for first_no
      add_same =
          let k = add_yes.0 in
          rw (
            lengths_yes T k.fits.sized,
            k.fits.lists,
            k.fits.right,
            k.right,
            lt-ltb c 4 k.contractor,
            lt-ltb m 24 k.number,
            add_yes.1,
            add_yes.2,
            add_yes.3,
          )

      pub add_turned : {A : Type 0} (r : Result A Refusal) (e : Refusal) (T' : Tables) → IsErr r × IsErrAnd r (λ x. x ≡ e) → Called (add_run m p q) T (number_of e) T'
          → CalledFor (add_run_for c m p q) t T hs (answer_of r) T' hs
      add_turned r e T' h a =
          subst (λ (v : ℕ). CalledFor (add_run_for c m p q) t T hs v T' hs) (sym (passed r e _ h refl))
          (plain_refused (add_run_for c m p q) t T hs add_same (number_of e) T' a (some e))

      pub add_done : (T' : Tables) → Called (add_run m p q) T 0 T' → CalledFor (add_run_for c m p q) t T hs 0 T' (set hs m c)
      add_done T' a = plain_done (add_run_for c m p q) t T hs add_same 0 T' a refl

  module _ (v : ℕ) (f : v ≡ over T t hs (own_asked (run_places T.runs) t hs c m)) where
    own_number : v ≡ over T t hs (own_asked (book_of (records T)).runs t hs c m)
    own_number = rw (← places T) f

    remove_number : v ≡ answer_over_for T t hs (remove_run_for c m)
    unfolding over own_asked answer_over_for questions_for
    remove_number = own_number

    pub remove_refused : (v ≡ 0 → ⊥) → CalledFor (remove_run_for c m) t T hs v T hs
    remove_refused n = turned_down (remove_run_for c m) t T hs v remove_number n

    pub move_refused : (p q : Point) → (v ≡ 0 → ⊥) → CalledFor (move_run_for c m p q) t T hs v T hs
    unfolding over own_asked answer_over_for questions_for
    move_refused p q n =
        turned_down (move_run_for c m p q) t T hs v
        (own_number ∙ first_more (ask 1 _ ∷ ask 2 _ ∷ own_asked (book_of (records T)).runs t hs c m) (ask 7 (place_right p && place_right q) ∷ []) (λ z. n (own_number ∙ z))) n

  module _ (f : 0 ≡ over T t hs (own_asked (run_places T.runs) t hs c m)) where
    own_yes : Named T t hs c m × (free (book_of (records T)).runs m ≡ false) × (word hs m ≡ c)
    unfolding own_asked
    own_yes =
        let k = named _ (sym (own_number 0 f)) in
        let o = own_run_lem (book_of (records T)).runs hs c m (first_yes 4 _ _ k.1).0 in
        (k.0, o.0, o.1)

    pub own_in : m < length hs
    own_in = omega (arith, own_yes.0.number, own_yes.0.fits.holders)

    remove_none : answer_over T (remove_run m) ≡ 0
    unfolding answer_over questions first_no
    remove_none = let k = own_yes.0 in rw (lengths_yes T k.fits.sized, k.fits.right, lt-ltb m 24 k.number, own_yes.1)

    pub remove_taken : (e : Refusal) (T' : Tables) → Called (remove_run m) T (number_of e) T' → ⊥
    remove_taken e T' a = some e (a.answer ∙ remove_none)

    pub remove_done : (T' : Tables) → Called (remove_run m) T 0 T' → CalledFor (remove_run_for c m) t T hs 0 T' (set hs m 255)
    remove_done T' a = plain_done (remove_run_for c m) t T hs (remove_none ∙ remove_number 0 f) 0 T' a refl

    module _ (p q : Point) where
      move_same : answer_over T (move_run m p q) ≡ answer_over_for T t hs (move_run_for c m p q)
      unfolding answer_over questions answer_over_for questions_for first_no
      move_same =
          let k = own_yes.0 in
          rw (
            lengths_yes T k.fits.sized,
            k.fits.lists,
            k.fits.right,
            k.right,
            lt-ltb c 4 k.contractor,
            lt-ltb m 24 k.number,
            own_yes.1,
            eq-eqb (word hs m) c own_yes.2,
          )

      pub move_done : (w : ℕ) (T' : Tables) → Called (move_run m p q) T w T' → CalledFor (move_run_for c m p q) t T hs w T' hs
      move_done w T' a = go (ℕ_discrete w 0)
        where
          go : Dec (w ≡ 0) → CalledFor (move_run_for c m p q) t T hs w T' hs
          go (yes y) = plain_done (move_run_for c m p q) t T hs move_same w T' a y
          go (no n) = plain_refused (move_run_for c m p q) t T hs move_same w T' a n
