-- What an edit of one record leaves as it was: the other records, and the marks that are not on it.
use mathlib.Core.Path.{◌≡◌, sym, ap, ◌∙◌}
use mathlib.Core.Logic.{◌≢◌}
use mathlib.Core.List.{List}
use mathlib.Core.Bool.{◌&&◌}
use Prim.Native.Nat.{ℕ, ◌+◌, ◌*◌, ◌-◌, ◌/◌, ◌%◌, ◌<◌, ◌≤◌}
use native.Mathlib.Omega.{arith}
use native.Mathlib.Decide.{dec_lt}
use lib.Dec.{ltb, leb, eqb}
use lib.ListN.{length, get_or, set, length-set}
use lib.Seq.{get_or-set_same, get_or-set_other}
use borrow.Author.Tests.{lt-leb, lt-ltb, le-ltb}
use Rattle.geometry.specs.Words.{Point, word, block_words}
use Rattle.tables.specs.Tables.{Records, run_words, figure_of, is_corner, is_end, present, place_of, OnBlock, OnRun}
use Rattle.lists.specs.Lists.{splice}
use Rattle.tables.specs.Written.{block_record, run_record}
use Rattle.tables.proofs.Splices.{splice_length, splice_before, splice_after, splice_here, part_ext, block_record_length}

-- words outside the part that was written over
pub splice_off : (t : List ℕ) (at : ℕ) (ws : List ℕ) → at + length ws ≤ length t → (i : ℕ) → (at ≤ i → at + length ws ≤ i)
    → get_or (splice t at ws) i 0 ≡ get_or t i 0
splice_off t at ws fits i out = go (dec_lt i at)
  where
    go : Dec (i < at) → get_or (splice t at ws) i 0 ≡ get_or t i 0
    go (yes b) = splice_before t at ws fits i b
    go (no b) = splice_after t at ws fits i (out (omega arith))

off_block : (n i : ℕ) → (OnBlock n i → ⊥) → i / 8 ≢ n
off_block n i h e = h (omega arith, omega arith)

off_run : (m i : ℕ) → 192 ≤ i → (OnRun m i → ⊥) → (i - 192) / 2 ≢ m
off_run m i b h e = h (omega arith, omega arith)

-- what a mark is and where, before and after
pub record Same (R R' : Records) (i : ℕ) : Type 0 where
  pub there : present R' i ≡ present R i
  pub place : place_of R' i ≡ place_of R i

module _ (R R' : Records) (n : ℕ) (ps : List Point) (below : n < 24) (sized : length R.blocks ≡ 408) (small : length ps ≤ 8)
    (blocks : R'.blocks ≡ splice R.blocks (17 * n) (block_record ps)) (runs : R'.runs ≡ R.runs) where
  block_fits : 17 * n + length (block_record ps) ≤ length R.blocks
  block_fits = omega (arith, block_record_length ps small)

  pub block_size_lem : length R'.blocks ≡ 408
  block_size_lem = ap length blocks ∙ splice_length R.blocks (17 * n) (block_record ps) block_fits ∙ sized

  pub block_here : block_words R'.blocks n ≡ block_record ps
  block_here = rw blocks (rw (block_record_length ps small) at (splice_here R.blocks (17 * n) (block_record ps) block_fits))

  pub block_kept : (k i : ℕ) → k ≢ n → 17 * k ≤ i → i < 17 * k + 17 → word R'.blocks i ≡ word R.blocks i
  block_kept k i d lo hi = rw blocks (splice_off R.blocks (17 * n) (block_record ps) block_fits i (λ (b : 17 * n ≤ i). omega (arith, block_record_length ps small)))

  pub block_other : (k : ℕ) → k ≢ n → block_words R'.blocks k ≡ block_words R.blocks k
  block_other k d = part_ext R'.blocks R.blocks (17 * k) 17 (block_size_lem ∙ sym sized) (λ i lo hi. block_kept k i d lo hi)

  corner_off : (i : ℕ) → (OnBlock n i → ⊥) → is_corner R'.blocks i ≡ is_corner R.blocks i
  unfolding is_corner
  corner_off i h = ap (λ (w : ℕ). ltb i 192 && ltb (i % 8) w) (block_kept (i / 8) (17 * (i / 8)) (off_block n i h) (omega arith) (omega arith))

  pub block_same : (i : ℕ) → (OnBlock n i → ⊥) → Same R R' i
  unfolding present place_of
  block_same i h =
      record {
        there = rw (corner_off i h, runs);
        place = rw (
          block_kept (i / 8) (17 * (i / 8) + 1 + 2 * (i % 8)) (off_block n i h) (omega arith) (omega arith),
          block_kept (i / 8) (17 * (i / 8) + 1 + 2 * (i % 8) + 1) (off_block n i h) (omega arith) (omega arith),
          runs,
        );
      }

module _ (R R' : Records) (m : ℕ) (ps : List Point) (below : m < 24) (sized : length R.runs ≡ 121) (full : length (run_record ps) ≡ 5)
    (blocks : R'.blocks ≡ R.blocks) (runs : R'.runs ≡ splice R.runs (5 * m) (run_record ps)) where
  run_fits : 5 * m + length (run_record ps) ≤ length R.runs
  run_fits = omega arith

  pub run_size : length R'.runs ≡ 121
  run_size = ap length runs ∙ splice_length R.runs (5 * m) (run_record ps) run_fits ∙ sized

  pub run_here : run_words R'.runs m ≡ run_record ps
  run_here = rw runs (rw full at (splice_here R.runs (5 * m) (run_record ps) run_fits))

  pub run_kept : (k i : ℕ) → k ≢ m → 5 * k ≤ i → i < 5 * k + 5 → word R'.runs i ≡ word R.runs i
  run_kept k i d lo hi = rw runs (splice_off R.runs (5 * m) (run_record ps) run_fits i (λ (b : 5 * m ≤ i). omega arith))

  pub run_figure : figure_of R'.runs ≡ figure_of R.runs
  run_figure = rw runs (splice_off R.runs (5 * m) (run_record ps) run_fits 120 (λ (b : 5 * m ≤ 120). omega arith))

  pub run_other : (k : ℕ) → k ≢ m → run_words R'.runs k ≡ run_words R.runs k
  run_other k d = part_ext R'.runs R.runs (5 * k) 5 (run_size ∙ sym sized) (λ i lo hi. run_kept k i d lo hi)

  end_off : (i : ℕ) → (OnRun m i → ⊥) → is_end R'.runs i ≡ is_end R.runs i
  unfolding is_end
  end_off i h = go (dec_lt i 192)
    where
      go : Dec (i < 192) → leb 192 i && ltb i 240 && eqb (word R'.runs (5 * ((i - 192) / 2))) 1 ≡ leb 192 i && ltb i 240 && eqb (word R.runs (5 * ((i - 192) / 2))) 1
      go (yes b) = rw (lt-leb 192 i b)
      go (no b) = rw (run_kept ((i - 192) / 2) (5 * ((i - 192) / 2)) (off_run m i (omega arith) h) (omega arith) (omega arith))

  end_place : (i : ℕ) → (OnRun m i → ⊥) → place_of R' i ≡ place_of R i
  unfolding place_of
  end_place i h = go (dec_lt i 192)
    where
      go : Dec (i < 192) → place_of R' i ≡ place_of R i
      go (yes b) = rw (lt-ltb i 192 b, blocks)
      go (no b) = rw (
        le-ltb i 192 (omega arith),
        run_kept ((i - 192) / 2) (5 * ((i - 192) / 2) + 1 + 2 * ((i - 192) % 2)) (off_run m i (omega arith) h) (omega arith) (omega arith),
        run_kept ((i - 192) / 2) (5 * ((i - 192) / 2) + 1 + 2 * ((i - 192) % 2) + 1) (off_run m i (omega arith) h) (omega arith) (omega arith),
      )

  pub run_same : (i : ℕ) → (OnRun m i → ⊥) → Same R R' i
  unfolding present
  run_same i h = record { there = rw (blocks, end_off i h); place = end_place i h }

-- an edit of the figure leaves every record and every mark
module _ (R R' : Records) (f : ℕ) (blocks : R'.blocks ≡ R.blocks) (runs : R'.runs ≡ set R.runs 120 f) where
  figure_kept : (i : ℕ) → i < 120 → word R'.runs i ≡ word R.runs i
  figure_kept i h = rw runs (get_or-set_other R.runs 120 i f 0 (omega arith))

  pub figure_size : length R'.runs ≡ length R.runs
  figure_size = ap length runs ∙ length-set R.runs 120 f

  pub figure_here : 120 < length R.runs → figure_of R'.runs ≡ f
  figure_here l = rw runs (get_or-set_same R.runs 120 f 0 l)

  pub figure_runs : (m : ℕ) → m < 24 → run_words R'.runs m ≡ run_words R.runs m
  figure_runs m l = part_ext R'.runs R.runs (5 * m) 5 figure_size (λ i lo hi. figure_kept i (omega arith))

  end_still : (i : ℕ) → i < 240 → is_end R'.runs i ≡ is_end R.runs i
  unfolding is_end
  end_still i l = ap (λ (w : ℕ). leb 192 i && ltb i 240 && eqb w 1) (figure_kept (5 * ((i - 192) / 2)) (omega arith))

  pub figure_same : (i : ℕ) → i < 240 → Same R R' i
  unfolding present place_of
  figure_same i l =
      record {
        there = rw (blocks, end_still i l);
        place = rw (
          blocks,
          figure_kept (5 * ((i - 192) / 2) + 1 + 2 * ((i - 192) % 2)) (omega arith),
          figure_kept (5 * ((i - 192) / 2) + 1 + 2 * ((i - 192) % 2) + 1) (omega arith),
        );
      }
