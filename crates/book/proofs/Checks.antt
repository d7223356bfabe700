-- The check and the drawing are one: a drawn yard is one that the check answers 0, and such a yard is drawn.
use mathlib.Core.Path.{◌≡◌, sym}
use mathlib.Core.Logic.{◌⊎◌, inl, inr}
use mathlib.Core.List.{List}
use Prim.Native.Nat.{ℕ}
use native.Mathlib.Decide.{ℕ_discrete}
use native.Mathlib.Omega.{arith}
use Rattle.tables.specs.Tables.{Tables, records}
use Rattle.book.specs.Questions.{first_no}
use Rattle.book.specs.Book.{Edit, Book, empty_book, answers, after_all}
use Rattle.book.specs.Drawing.{Right, Drawn}
use Rattle.book.specs.Edits.{book_of, fitness, Started, Checked}
use Rattle.book.specs.History.{Calls}
use Rattle.book.proofs.Questions.{fitting}
use Rattle.book.proofs.Sound.{Sound, empty_sound, all_sound}
use Rattle.book.proofs.Fitting.{fitting_sound, fitting_drawn}
use Rattle.book.proofs.Demand3.{drawn_lengths, drawn_records, calls_drawn, demand3}

pub drawn_checks : (b : Book) (T : Tables) (r : ℕ) → Sound b → Drawn b T → Checked T r → r ≡ 0
unfolding first_no
drawn_checks b T r s d c = go (c.fit fits)
  where
    fits : fitness T ≡ 0
    fits = rw (drawn_lengths b T s d, drawn_records b T s d)

    go : ((r ≡ 0) × Right T) ⊎ ((r ≡ 11) × (Right T → ⊥)) → r ≡ 0
    go (inl a) = a.0
    go (inr a) = absurd (a.1 d.right)

-- so is a yard that was started and then edited in any way
pub history_checks : (T₀ T T' : Tables) (es : List Edit) (rs : List ℕ) (r : ℕ) → Started T₀ 0 T → Calls es T rs T' → Checked T' r → r ≡ 0
history_checks T₀ T T' es rs r st cs =
    drawn_checks (after_all empty_book es) T' r (all_sound empty_book es empty_sound) (demand3 T₀ T T' es rs st cs).1

-- a yard that the check answers 0 has passed questions 1 and 2
checked_fits : (T : Tables) → Checked T 0 → fitness T ≡ 0
checked_fits T c = go (ℕ_discrete (fitness T) 0)
  where
    go : Dec (fitness T ≡ 0) → fitness T ≡ 0
    go (yes z) = z
    go (no z) = absurd (z (sym (c.unfit z)))

-- it is the drawing of the book that its records write
pub checked_drawn : (T : Tables) → Checked T 0 → Drawn (book_of (records T)) T
checked_drawn T c = let z = checked_fits T c in fitting_drawn T (fitting T z) (right_of (c.fit z))
  where
    right_of : (◌≡◌ {A = ℕ} 0 0 × Right T) ⊎ (◌≡◌ {A = ℕ} 0 11 × (Right T → ⊥)) → Right T
    right_of (inl a) = a.1
    right_of (inr a) = absurd (omega (arith, a.0))

-- and that book is sound, so that calls from there go on as from a start: this is how a panel that loads its tables begins
pub checked_sound : (T : Tables) → Checked T 0 → Sound (book_of (records T))
checked_sound T c = fitting_sound T (fitting T (checked_fits T c))

-- tables that the check answers 0, wherever they come from, then any list of edits: the answers of that book, and the drawing of what it becomes
pub checked_calls : (T T' : Tables) (es : List Edit) (rs : List ℕ) → Checked T 0 → Calls es T rs T'
    → (rs ≡ answers (book_of (records T)) es) × Drawn (after_all (book_of (records T)) es) T'
checked_calls T T' es rs c = calls_drawn (book_of (records T)) T T' es rs (checked_sound T c) (checked_drawn T c)
