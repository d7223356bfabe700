-- After any list of calls whoever holds fewer runs than promised finds a free number and is not turned down there.
use mathlib.Core.Path.{◌≡◌, refl, sym, ◌∙◌, subst}
use mathlib.Core.List.{List}
use mathlib.Core.Bool.{true, ◌&&◌}
use Prim.Native.Nat.{ℕ, ◌*◌, ◌<◌}
use native.Mathlib.Omega.{arith}
use lib.Dec.{eqb}
use lib.ListN.{replicate}
use borrow.Author.Tests.{lt-ltb, eqb-true, eq-eqb}
use Rattle.geometry.specs.Words.{Point, word}
use Rattle.tables.specs.Tables.{Tables, records}
use Rattle.tables.proofs.Splices.{word_zeros}
use Rattle.records.specs.Questions.{place_right}
use Rattle.book.specs.Questions.{first_no}
use Rattle.book.specs.Book.{empty_book, free}
use Rattle.book.specs.Edits.{book_of, started, Started, Checked}
use Rattle.book.proofs.Stored.{run_free}
use Rattle.book.proofs.Sound.{empty_sound}
use Rattle.book.proofs.Demand3.{started_drawn, drawn_book}
use Rattle.book.proofs.Checks.{drawn_checks}
use Rattle.book.proofs.Outcomes.{checked_exists}
use Rattle.shares.specs.Shares.{Terms, held, free_numbers, unfilled_of, unfilled, unfilled_others, lists_right, terms_right, shares_right}
use Rattle.shares.specs.Calls.{add_run_for, questions_for}
use Rattle.shares.specs.History.{AnyEdit, named, any_answer}
use Rattle.shares.specs.Promise.{CallsFor, Opened, FreeNumber, Promise, KeepsPromise}
use Rattle.shares.proofs.Sums.{some_below_lem, sum_part}
use Rattle.shares.proofs.Counts.{unfilled_split}
use Rattle.shares.proofs.Keeping.{terms_kept, Kept, kept_of}
use Rattle.shares.proofs.Going.{Going, drawn_for, going_all, opened_going}

module _ (t : Terms) (T : Tables) (hs : List ℕ) (g : Going t T hs) where
  -- question 18 as the tables say it
  still_right : shares_right (book_of (records T)).runs t hs ≡ true
  still_right = rw (drawn_book g.book T g.sound g.drawn) g.right

  free_word : (m : ℕ) → m < 24 → free g.book.runs m ≡ eqb (word T.runs (5 * m)) 0
  free_word m l = rw (drawn_book g.book T g.sound g.drawn) at (run_free (records T) m l)

  kept : Kept g.book.runs t hs
  kept = kept_of g.book.runs t hs g.right

  module _ (c : ℕ) (lc : c < 4) (low : held hs c < word t.shares c) where
    some_free : 0 < free_numbers g.book.runs
    unfolding unfilled
    some_free = omega (arith, kept.enough, sum_part (λ d. unfilled_of hs t.shares d) 4 c lc)

    finds : FreeNumber T
    unfolding free_numbers
    finds =
        let s = some_below_lem (λ m. free g.book.runs m) 24 some_free in
        record { number = s.number; below = s.below; absent = eqb-true _ 0 (sym (free_word s.number s.below) ∙ s.meets) }

    grants : (m : ℕ) (p q : Point) → m < 24 → word T.runs (5 * m) ≡ 0 → place_right p && place_right q ≡ true → any_answer g.book (named (add_run_for c m p q) t hs) ≡ 0
    unfolding any_answer questions_for first_no
    grants m p q lm z r =
        let spare : unfilled_others hs t.shares c < free_numbers g.book.runs = omega (arith, kept.enough, unfilled_split hs t.shares c lc) in
        let below : held hs c < word t.ceilings c = omega (arith, (terms_kept t kept.terms).0 c lc) in
        rw (g.lists, g.right, lt-ltb c 4 lc, lt-ltb m 24 lm, free_word m lm ∙ eq-eqb _ 0 z, lt-ltb _ _ below, lt-ltb _ _ spare, r)

  promise : Promise t T hs
  promise =
      record {
        finds = finds;
        accepts = λ c m p q lc low lm z r n T' hs' s.
            s.answer ∙ drawn_for g.book T t hs (add_run_for c m p q) g.sound g.drawn ∙ grants c lc low m p q lm z r;
      }

-- a yard that was started is one to begin with, under any terms within the rules
pub started_opened : (t : Terms) (T₀ T : Tables) → Started T₀ 0 T → lists_right t (replicate 24 255) ≡ true → terms_right t ≡ true → Opened t T (replicate 24 255)
unfolding started
started_opened t T₀ T st l r =
    let c = checked_exists T in
    record {
      checked = subst (λ (n : ℕ). Checked T n) (drawn_checks empty_book T c.0 empty_sound (rw (st.done refl) started_drawn) c.1) c.1;
      empty = λ m b. rw (st.done refl) (word_zeros 121 (5 * m));
      unheld = refl;
      lists = l;
      terms = r;
    }

-- question 18 is answered yes after every list of calls
pub always_right : (t : Terms) (T T' : Tables) (hs hs' : List ℕ) (xs : List AnyEdit) (rs : List ℕ)
    → Opened t T hs → CallsFor t xs T hs rs T' hs' → shares_right (book_of (records T')).runs t hs' ≡ true
always_right t T T' hs hs' xs rs o cs = still_right t T' hs' (going_all (opened_going t T hs o) cs)

pub keeps_promise : KeepsPromise
keeps_promise t T T' hs hs' xs rs o cs = promise t T' hs' (going_all (opened_going t T hs o) cs)
