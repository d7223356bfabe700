-- Records that question 2 allows are what the layers under the calls ask.
use mathlib.Core.Path.{◌≡◌}
use mathlib.Core.Logic.{◌⊎◌, inl, inr}
use mathlib.Core.List.{List}
use mathlib.Core.Bool.{Bool, true, ◌&&◌}
use Prim.Native.Nat.{ℕ, ◌+◌, ◌*◌, ◌-◌, ◌/◌, ◌<◌, ◌≤◌}
use native.Mathlib.Omega.{arith}
use lib.Dec.{leb, eqb}
use lib.ListN.{length, drop}
use borrow.Author.Tests.{leb-true, eqb-true}
use Rattle.geometry.specs.Words.{word, block_words, corners}
use Rattle.geometry.specs.inner.Bounds.{BoundedRecord}
use Rattle.geometry.specs.Convexity.{convex}
use Rattle.lists.specs.Lists.{all_below, all}
use Rattle.lists.proofs.Below.{all_at}
use Rattle.lists.proofs.Every.{both, or_cases}
use Rattle.tables.specs.Tables.{Records, run_words, figure_of}
use Rattle.tables.specs.inner.Fit.{Fit}
use Rattle.tables.proofs.Splices.{part_length, word_in, block_first, run_first}
use Rattle.records.specs.Questions.{coordinate_right, zero_from, block_right, run_right, figure_right, records_right}
use Rattle.records.proofs.Loops.{rest_bound, zero_word}

-- what question 2 says of a standing block
pub record StandingRecord (ws : List ℕ) : Type 0 where
  pub low : 3 ≤ word ws 0
  pub high : word ws 0 ≤ 8
  pub unused : zero_from ws (1 + 2 * word ws 0) ≡ true
  pub rest : all coordinate_right (drop 1 ws) ≡ true
  pub turns : convex (corners ws) ≡ true

pub block_cases : (ws : List ℕ) → block_right ws ≡ true → (zero_from ws 0 ≡ true) ⊎ StandingRecord ws
unfolding block_right
block_cases ws h = go (or_cases (zero_from ws 0) standing h)
  where
    standing : Bool
    standing = leb 3 (word ws 0) && leb (word ws 0) 8 && zero_from ws (1 + 2 * word ws 0) && all coordinate_right (drop 1 ws) && convex (corners ws)

    go : (zero_from ws 0 ≡ true) ⊎ (standing ≡ true) → (zero_from ws 0 ≡ true) ⊎ StandingRecord ws
    go (inl z) = inl z
    go (inr s) =
        let s₁ = both (leb 3 (word ws 0) && leb (word ws 0) 8 && zero_from ws (1 + 2 * word ws 0) && all coordinate_right (drop 1 ws)) (convex (corners ws)) s in
        let s₂ = both (leb 3 (word ws 0) && leb (word ws 0) 8 && zero_from ws (1 + 2 * word ws 0)) (all coordinate_right (drop 1 ws)) s₁.0 in
        let s₃ = both (leb 3 (word ws 0) && leb (word ws 0) 8) (zero_from ws (1 + 2 * word ws 0)) s₂.0 in
        let s₄ = both (leb 3 (word ws 0)) (leb (word ws 0) 8) s₃.0 in
        inr (record { low = leb-true 3 _ s₄.0; high = leb-true _ 8 s₄.1; unused = s₃.1; rest = s₂.1; turns = s₁.1 })

pub block_fit : (ws : List ℕ) → length ws ≡ 17 → block_right ws ≡ true → BoundedRecord ws
block_fit ws l h = go (block_cases ws h)
  where
    go : (zero_from ws 0 ≡ true) ⊎ StandingRecord ws → BoundedRecord ws
    go (inl z) =
        let e : (i : ℕ) → i < 17 → word ws i ≡ 0 = λ i b. zero_word ws 0 i z (omega arith) (omega arith) in
        record { sized = l; count = omega (arith, e 0 (omega arith)); coordinates = λ i b. omega (arith, e i b) }
    go (inr s) = record { sized = l; count = s.high; coordinates = λ i b. rest_bound ws i (omega (arith, s.high)) s.rest (omega arith) }

pub run_cases : (ws : List ℕ) → run_right ws ≡ true → (zero_from ws 0 ≡ true) ⊎ ((word ws 0 ≡ 1) × (all coordinate_right (drop 1 ws) ≡ true))
unfolding run_right
run_cases ws h = go (or_cases (zero_from ws 0) (eqb (word ws 0) 1 && all coordinate_right (drop 1 ws)) h)
  where
    go : (zero_from ws 0 ≡ true) ⊎ (eqb (word ws 0) 1 && all coordinate_right (drop 1 ws) ≡ true)
        → (zero_from ws 0 ≡ true) ⊎ ((word ws 0 ≡ 1) × (all coordinate_right (drop 1 ws) ≡ true))
    go (inl z) = inl z
    go (inr s) = let p = both (eqb (word ws 0) 1) (all coordinate_right (drop 1 ws)) s in inr (eqb-true _ 1 p.0, p.1)

pub run_fit : (ws : List ℕ) → length ws ≡ 5 → run_right ws ≡ true → (word ws 0 ≤ 1) × ((i : ℕ) → i < 5 → word ws i ≤ 32767)
run_fit ws l h = go (run_cases ws h)
  where
    go : (zero_from ws 0 ≡ true) ⊎ ((word ws 0 ≡ 1) × (all coordinate_right (drop 1 ws) ≡ true)) → (word ws 0 ≤ 1) × ((i : ℕ) → i < 5 → word ws i ≤ 32767)
    go (inl z) =
        let e : (i : ℕ) → i < 5 → word ws i ≡ 0 = λ i b. zero_word ws 0 i z (omega arith) (omega arith) in
        (omega (arith, e 0 (omega arith)), λ i b. omega (arith, e i b))
    go (inr s) = (omega (arith, s.0), λ i b. rest_bound ws i (omega (arith, s.0)) s.1 (omega arith))

module _ (R : Records) (blocks : length R.blocks ≡ 408) (runs : length R.runs ≡ 121) (right : records_right R ≡ true) where
  abbrev blocks_right : Bool
  blocks_right = all_below 24 (λ n. block_right (block_words R.blocks n))

  abbrev runs_right : Bool
  runs_right = all_below 24 (λ m. run_right (run_words R.runs m))

  parts : (blocks_right && runs_right ≡ true) × (figure_right (figure_of R.runs) ≡ true)
  unfolding records_right
  parts = both (blocks_right && runs_right) _ right

  pub figure_allowed : figure_of R.runs ≤ 1000
  figure_allowed = leb-true _ 1000 parts.1

  pub block_allowed : (n : ℕ) → n < 24 → block_right (block_words R.blocks n) ≡ true
  block_allowed n h = all_at (λ k. block_right (block_words R.blocks k)) 24 n (both blocks_right runs_right parts.0).0 h

  pub run_allowed : (m : ℕ) → m < 24 → run_right (run_words R.runs m) ≡ true
  run_allowed m h = all_at (λ k. run_right (run_words R.runs k)) 24 m (both blocks_right runs_right parts.0).1 h

  pub record_bounded : (n : ℕ) → n < 24 → BoundedRecord (block_words R.blocks n)
  record_bounded n h = block_fit (block_words R.blocks n) (part_length R.blocks (17 * n) 17 (omega arith)) (block_allowed n h)

  run_bounded : (m : ℕ) → m < 24 → (word (run_words R.runs m) 0 ≤ 1) × ((i : ℕ) → i < 5 → word (run_words R.runs m) i ≤ 32767)
  run_bounded m h = run_fit (run_words R.runs m) (part_length R.runs (5 * m) 5 (omega arith)) (run_allowed m h)

  pub records_fit : Fit R
  records_fit =
      record {
        blocks = record {
          sized = blocks;
          counts = λ n h. rw (block_first R.blocks n) at (record_bounded n h).count;
          coordinates = λ i h.
              rw (word_in R.blocks (17 * (i / 17)) 17 i (omega arith) (omega arith))
              ((record_bounded (i / 17) (omega arith)).coordinates (i - 17 * (i / 17)) (omega arith));
        };
        runs = record {
          sized = runs;
          flags = λ m h. rw (run_first R.runs m) at (run_bounded m h).0;
          coordinates = λ i h.
              rw (word_in R.runs (5 * (i / 5)) 5 i (omega arith) (omega arith))
              ((run_bounded (i / 5) (omega arith)).1 (i - 5 * (i / 5)) (omega arith));
          figure = figure_allowed;
        };
      }
