-- Tables that questions 1 and 2 pass: their records are those of the book that they write, and that book is sound.
use mathlib.Core.Path.{◌≡◌, sym}
use mathlib.Core.List.{[]}
use Prim.Native.Nat.{ℕ, ◌*◌, ◌<◌}
use native.Mathlib.Omega.{arith}
use lib.ListN.{get_or}
use Rattle.lists.proofs.Values.{up_to_length}
use Rattle.geometry.specs.Words.{block_words}
use Rattle.tables.specs.Tables.{Tables, records, run_words}
use Rattle.tables.specs.Written.{block_record, run_record}
use Rattle.tables.proofs.Splices.{part_length}
use Rattle.records.proofs.Fits.{block_allowed, run_allowed, figure_allowed}
use Rattle.records.proofs.Places.{BlockPlace, vacant, RunPlace, unused, block_again, block_place, run_again, run_place}
use Rattle.book.specs.Drawing.{Right, Drawn}
use Rattle.book.specs.Edits.{book_of}
use Rattle.book.proofs.Questions.{Fitting}
use Rattle.book.proofs.Stored.{book_block, book_run, book_figure, up_to_each}
use Rattle.book.proofs.Sound.{Sound}

module _ (T : Tables) (f : Fitting T) where
  fitting_block : (n : ℕ) → n < 24 → block_words T.blocks n ≡ block_record (get_or (book_of (records T)).blocks n [])
  fitting_block n l =
      let s = f.sized in
      rw (book_block (records T) n l)
      (block_again (block_words T.blocks n) (part_length T.blocks (17 * n) 17 (omega arith)) (block_allowed (records T) s.blocks s.runs f.right n l))

  pub fitting_run : (m : ℕ) → m < 24 → run_words T.runs m ≡ run_record (get_or (book_of (records T)).runs m [])
  fitting_run m l =
      let s = f.sized in
      rw (book_run (records T) m l)
      (run_again (run_words T.runs m) (part_length T.runs (5 * m) 5 (omega arith)) (run_allowed (records T) s.blocks s.runs f.right m l))

  pub fitting_sound : Sound (book_of (records T))
  unfolding book_of
  fitting_sound =
      let s = f.sized in
      record {
        block_count = up_to_length _ 24;
        run_count = up_to_length _ 24;
        blocks = up_to_each 24 _ BlockPlace vacant (λ k l. block_place _ (block_allowed (records T) s.blocks s.runs f.right k l));
        runs = up_to_each 24 _ RunPlace unused (λ k l. run_place _ (run_allowed (records T) s.blocks s.runs f.right k l));
        figure = figure_allowed (records T) s.blocks s.runs f.right;
      }

  -- where their pairs and routes are right too, they are its drawing
  pub fitting_drawn : Right T → Drawn (book_of (records T)) T
  fitting_drawn r =
      let s = f.sized in
      record { sizes = (s.blocks, s.runs, s.pairs, s.routes); blocks = fitting_block; runs = fitting_run; figure = sym (book_figure (records T)); right = r }
