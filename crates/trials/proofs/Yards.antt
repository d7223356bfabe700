-- A yard made by edits: that the book takes them, and the book that they leave.
use mathlib.Core.Path.{◌≡◌, refl, ap, ◌∙◌}
use mathlib.Core.List.{List, [], ◌∷◌, ◌++◌}
use mathlib.Core.Bool.{Bool, true, ◌&&◌}
use Prim.Native.Nat.{ℕ}
use native.Mathlib.Omega.{arith}
use lib.Dec.{eqb}
use lib.ListN.{get_or}
use lib.Seq.{get_or-set_same}
use borrow.Author.Tests.{eq-eqb}
use Rattle.lists.specs.Lists.{all}
use Rattle.lists.proofs.Every.{both, and_yes, every_append}
use Rattle.geometry.specs.Words.{Point}
use Rattle.tables.specs.Tables.{Tables}
use Rattle.records.specs.Questions.{place_right, figure_right}
use Rattle.book.specs.Questions.{first_no}
use Rattle.book.specs.Book.{Book, Edit, add_run, set_charge, empty_book, free, questions, answer, written, with_run, with_figure, step, after_all, answers}
use Rattle.book.specs.Drawing.{Drawn}
use Rattle.book.proofs.Sound.{empty_sound, all_sound, step_done}
use Rattle.book.proofs.Exists.{history_drawn_exists}
use Rattle.trials.specs.Rows.{Blocks, add_blocks, yard_edits, charged_edits, Leaves}

after_more : (b : Book) (es fs : List Edit) → after_all b (es ++ fs) ≡ after_all (after_all b es) fs
unfolding after_all
after_more b [] fs = refl
after_more b (e ∷ es) fs = after_more (step b e) es fs

answers_more : (b : Book) (es fs : List Edit) → answers b (es ++ fs) ≡ answers b es ++ answers (after_all b es) fs
unfolding answers after_all
answers_more b [] fs = refl
answers_more b (e ∷ es) fs = ap (λ (rs : List ℕ). answer b e ∷ rs) (answers_more (step b e) es fs)

-- the book of the blocks alone, and with run 0 from p to q
unfoldable pub blocks_book : Blocks → Book
blocks_book bs = after_all empty_book (add_blocks 0 bs)

abbrev pub yard_book : Blocks → Point → Point → Book
yard_book bs p q = with_run (blocks_book bs) 0 (p ∷ q ∷ [])

-- and under a figure
abbrev pub charged_book : ℕ → Blocks → Point → Point → Book
charged_book f bs p q = with_figure (yard_book bs p q) f

abbrev all_zero : List ℕ → Bool
all_zero rs = all (λ r. eqb r 0) rs

-- the book takes the blocks, and has place 0 left for a run
unfoldable pub stands : Blocks → Bool
unfolding blocks_book all free
stands bs = all_zero (answers empty_book (add_blocks 0 bs)) && free (blocks_book bs).runs 0

module _ (bs : Blocks) (p q : Point) (s : stands bs ≡ true) (r : place_right p && place_right q ≡ true) where
  run_taken : answer (blocks_book bs) (add_run 0 p q) ≡ 0
  unfolding stands answer questions first_no
  run_taken = rw ((both (all_zero (answers empty_book (add_blocks 0 bs))) _ s).1, r)

  yard_book_lem : after_all empty_book (yard_edits bs p q) ≡ yard_book bs p q
  unfolding yard_edits blocks_book after_all written
  yard_book_lem = after_more empty_book (add_blocks 0 bs) (add_run 0 p q ∷ []) ∙ step_done (blocks_book bs) (add_run 0 p q) run_taken

  all_taken : all_zero (answers empty_book (yard_edits bs p q)) ≡ true
  unfolding stands yard_edits blocks_book answers all
  all_taken =
      rw (answers_more empty_book (add_blocks 0 bs) (add_run 0 p q ∷ []))
      (every_append (λ n. eqb n 0) (answers empty_book (add_blocks 0 bs)) (answer (blocks_book bs) (add_run 0 p q) ∷ [])
      (both (all_zero (answers empty_book (add_blocks 0 bs))) _ s).0 (and_yes (eqb (answer (blocks_book bs) (add_run 0 p q)) 0) true (eq-eqb _ 0 run_taken) refl))

  pub run_stored : get_or (yard_book bs p q).runs 0 [] ≡ p ∷ q ∷ []
  unfolding blocks_book
  run_stored = get_or-set_same (blocks_book bs).runs 0 (p ∷ q ∷ []) [] (omega (arith, (all_sound empty_book (add_blocks 0 bs) empty_sound).run_count))

  pub leaves : (P : Tables → Type 0) → ((T : Tables) → Drawn (yard_book bs p q) T → P T) → Leaves (yard_edits bs p q) P
  leaves P f = record { taken = all_taken; drawing = history_drawn_exists (yard_edits bs p q); each = λ T d. f T (rw yard_book_lem at d) }

  module _ (f : ℕ) (h : figure_right f ≡ true) where
    set_taken : answer (yard_book bs p q) (set_charge f) ≡ 0
    unfolding answer questions first_no
    set_taken = rw h

    charged_book_lem : after_all empty_book (charged_edits f bs p q) ≡ charged_book f bs p q
    unfolding charged_edits after_all written
    charged_book_lem = after_more empty_book (yard_edits bs p q) (set_charge f ∷ []) ∙ ap (λ (b : Book). step b (set_charge f)) yard_book_lem ∙ step_done (yard_book bs p q) (set_charge f) set_taken

    still_taken : all_zero (answers empty_book (charged_edits f bs p q)) ≡ true
    unfolding charged_edits answers all
    still_taken =
        rw (answers_more empty_book (yard_edits bs p q) (set_charge f ∷ []), yard_book_lem)
        (every_append (λ n. eqb n 0) (answers empty_book (yard_edits bs p q)) (answer (yard_book bs p q) (set_charge f) ∷ [])
        all_taken (and_yes (eqb (answer (yard_book bs p q) (set_charge f)) 0) true (eq-eqb _ 0 set_taken) refl))

    pub charged_leaves : (P : Tables → Type 0) → ((T : Tables) → Drawn (charged_book f bs p q) T → P T) → Leaves (charged_edits f bs p q) P
    charged_leaves P g = record { taken = still_taken; drawing = history_drawn_exists (charged_edits f bs p q); each = λ T d. g T (rw charged_book_lem at d) }
