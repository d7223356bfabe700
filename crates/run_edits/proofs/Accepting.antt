-- An accepted edit of a run: its record is a sound one, and the contract is met by the tables that follow.
use mathlib.Core.Path.{◌≡◌}
use mathlib.Core.List.{List}
use Prim.Native.Nat.{ℕ, ◌<◌}
use lib.ListN.{replicate}
use borrow.Author.Tests.{ltb-true}
use Rattle.geometry.specs.Words.{Point}
use Rattle.tables.specs.Tables.{Tables}
use Rattle.tables.specs.inner.Fit.{BoundedRun}
use Rattle.tables.proofs.Splices.{run_record_none, run_record_two}
use Rattle.records.proofs.Places.{end_words, ends_bounded, no_run_bounded}
use Rattle.book.specs.Book.{add_run, remove_run, move_run, questions, written}
use Rattle.book.specs.Edits.{answer_over, RunEdited, Called}
use Rattle.book.proofs.Questions.{first_yes}
use Rattle.answers.proofs.Accepting.{Ready, own, ready, done}

pub record RunReady (T : Tables) (m : ℕ) (ws : List ℕ) : Type 0 where
  pub ready : Ready T
  pub below : m < 24
  pub bounded : BoundedRun ws

module _ (T : Tables) (m : ℕ) (p q : Point) where
  module _ (f : 0 ≡ answer_over T (add_run m p q)) where
    pub add_run_ready : RunReady T m (end_words p q)
    unfolding questions
    add_run_ready =
        let q₃ = first_yes 2 _ _ (own T (add_run m p q) f) in
        let q₄ = first_yes 3 _ _ q₃.1 in
        record { ready = ready T _ f; below = ltb-true m 24 q₃.0; bounded = ends_bounded p q (first_yes 6 _ _ q₄.1).0 }

    pub add_run_done : (T' : Tables) → RunEdited T m (end_words p q) T' → Called (add_run m p q) T 0 T'
    unfolding written
    add_run_done T' b = done T (add_run m p q) f T' (rw (run_record_two p q) b)

  module _ (f : 0 ≡ answer_over T (move_run m p q)) where
    pub move_run_ready : RunReady T m (end_words p q)
    unfolding questions
    move_run_ready =
        let q₃ = first_yes 2 _ _ (own T (move_run m p q) f) in
        let q₅ = first_yes 4 _ _ q₃.1 in
        record { ready = ready T _ f; below = ltb-true m 24 q₃.0; bounded = ends_bounded p q (first_yes 6 _ _ q₅.1).0 }

    pub move_run_done : (T' : Tables) → RunEdited T m (end_words p q) T' → Called (move_run m p q) T 0 T'
    unfolding written
    move_run_done T' b = done T (move_run m p q) f T' (rw (run_record_two p q) b)

module _ (T : Tables) (m : ℕ) (f : 0 ≡ answer_over T (remove_run m)) where
  pub remove_run_ready : RunReady T m (replicate 5 0)
  unfolding questions
  remove_run_ready =
      let q₃ = first_yes 2 _ _ (own T (remove_run m) f) in
      record { ready = ready T _ f; below = ltb-true m 24 q₃.0; bounded = no_run_bounded }

  pub remove_run_done : (T' : Tables) → RunEdited T m (replicate 5 0) T' → Called (remove_run m) T 0 T'
  unfolding written
  remove_run_done T' b = done T (remove_run m) f T' (rw run_record_none b)
