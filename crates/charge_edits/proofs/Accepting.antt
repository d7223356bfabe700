-- An accepted figure: the tables are such that routes can be found, and the contract is met by those that follow.
use mathlib.Core.Path.{◌≡◌}
use Prim.Native.Nat.{ℕ, ◌≤◌}
use borrow.Author.Tests.{leb-true}
use Rattle.tables.specs.Tables.{Tables}
use Rattle.book.specs.Book.{set_charge, questions, written}
use Rattle.book.specs.Edits.{answer_over, FigureEdited, Called}
use Rattle.book.proofs.Questions.{first_yes}
use Rattle.answers.proofs.Accepting.{Ready, own, ready, done}

module _ (T : Tables) (g : ℕ) (f : 0 ≡ answer_over T (set_charge g)) where
  pub charge_ready : Ready T × (g ≤ 1000)
  unfolding questions
  charge_ready = (ready T _ f, leb-true g 1000 (first_yes 12 _ _ (own T (set_charge g) f)).0)

  pub charge_done : (T' : Tables) → FigureEdited T g T' → Called (set_charge g) T 0 T'
  unfolding written
  charge_done T' b = done T (set_charge g) f T' b
