-- Two yards with one run, bare and with square S: what hides there, the quote of the run by a test, and a second end that is hidden.
use mathlib.Core.Path.{◌≡◌, refl, sym}
use mathlib.Core.List.{List, [], ◌∷◌, ◌++◌}
use mathlib.Core.Bool.{Bool, true, false, true≢false}
use Prim.Native.Nat.{ℕ, zero, suc, ◌+◌, ◌*◌, ◌-◌, ◌/◌, ◌%◌, ◌≤◌, ◌<◌}
use native.Mathlib.Omega.{arith}
use lib.ListN.{length, replicate}
use borrow.Author.Tests.{lt-ltb}
use Rattle.geometry.specs.Words.{Point, word, block_words}
use Rattle.geometry.specs.Obstruction.{turn, side_turn}
use Rattle.tables.specs.Tables.{Records, stored, is_corner, place_of}
use Rattle.tables.proofs.Splices.{word_zeros, block_first}
use Rattle.lists.specs.Lists.{all_below}
use Rattle.nets.specs.inner.Keys.{weight}
use Rattle.nets.specs.Net.{turn as bend, Path, arrive, onward, cost}
use Rattle.lines.specs.Lines.{insert, index_of, corner_lines}
use Rattle.lines.proofs.Lists.{Placed, put_last, put_before, put_same, put_after, placed, index_here, index_past}
use Rattle.crossings.specs.Grid.{grid, place, net, crossing_at}
use Rattle.ducts.specs.Quote.{found, no_way, crossing_words, grid_of, duct_start, duct_end, DuctIs}
use Rattle.trials.proofs.Sight.{obstructed}
use Rattle.duct_trials.proofs.Checker.{Judges, label_of, checks, best_by}
use Rattle.duct_trials.proofs.Square.{S, blocks_s, one_run, yard, square_judged}

-- no blocks, and run 0 from p to q; nothing is hidden
unfoldable pub no_blocks : List ℕ
no_blocks = replicate 408 0

abbrev pub bare : Point → Point → Records
bare p q = stored no_blocks (one_run p q)

abbrev pub nothing : Point → Point → Bool
nothing a b = false

pub bare_judged : Judges no_blocks nothing
unfolding no_blocks
bare_judged = record { hides = λ a b e. absurd (true≢false (sym e)); clears = λ a b e. record { seen = λ n l h. gone n h.stands; unshared = λ h. gone h.p h.first.stands } }
  where
    gone : (n : ℕ) → 0 < word (block_words no_blocks n) 0 → ⊥
    gone n h = omega (arith, block_first no_blocks n, word_zeros 408 (17 * n))

-- the path of run 0 is its first end and then the crossings us: the labels show that it is the best
unfoldable pub shows : Records → (Point → Point → Bool) → List ℕ → List ℕ → Bool
unfolding grid_of duct_start duct_end is_corner place_of label_of checks all_below weight bend cost crossing_words one_run no_blocks blocks_s obstructed side_turn turn
shows R hid table us = checks R.blocks hid (grid_of R 0) (label_of (grid_of R 0) table) (duct_end R 0) (duct_start R 0 ∷ us)

pub way : (R : Records) (hid : Point → Point → Bool) → Judges R.blocks hid → (table us : List ℕ) → shows R hid table us ≡ true
    → DuctIs R 0 (1 ∷ cost (net R.blocks (grid_of R 0)) (duct_start R 0 ∷ us) ∷ suc (length us) ∷ [])
    (crossing_words (grid_of R 0) (duct_start R 0 ∷ us) ++ replicate (8712 - 2 * suc (length us)) 0)
unfolding shows
way R hid judges table us h = found (duct_start R 0 ∷ us) (best_by R.blocks hid (grid_of R 0) (label_of (grid_of R 0) table) (duct_end R 0) judges (duct_start R 0) us h)

-- a line stands in its list where it is looked for
at_index : {x : ℕ} {l k : List ℕ} → Placed x l k → (word k (index_of x k) ≡ x) × (index_of x k ≤ length l)
at_index {x} put_last = rw (index_here x x [] refl) (refl, omega arith)
at_index {x} (put_before {y} {ys} l) = rw (index_here x x (y ∷ ys) refl) (refl, omega arith)
at_index {x} (put_same {y} {ys} e) = rw (index_here x y ys (sym e)) (sym e, omega arith)
at_index {x} (put_after {y} {zs = zs} l p) = let h = at_index p in rw (index_past x y zs (λ (e : y ≡ x). omega arith)) (h.0, omega (arith, h.1))

longer : {x : ℕ} {l k : List ℕ} → Placed x l k → length k ≤ suc (length l)
longer put_last = omega arith
longer (put_before l) = omega arith
longer (put_same e) = omega arith
longer (put_after l p) = omega (arith, longer p)

-- so the crossing of a place is there
crossing_there : (xs ys : List ℕ) (p : Point) → length ys < 66
    → place (grid (insert p.east xs) (insert p.north ys)) (crossing_at (grid (insert p.east xs) (insert p.north ys)) p) ≡ p
unfolding place crossing_at
crossing_there xs ys p l =
    let a = at_index (placed p.east xs) in
    let b = at_index (placed p.north ys) in
    let i = index_of p.east (insert p.east xs) in
    let j = index_of p.north (insert p.north ys) in
    let d : (66 * i + j) / 66 ≡ i = omega (arith, b.1) in
    let r : (66 * i + j) % 66 ≡ j = omega (arith, b.1) in
    rw (d, r, a.0, b.0)

second_there : (R : Records) → length (insert (place_of R 192).north (corner_lines R false 192)) < 66 → place (grid_of R 0) (duct_end R 0) ≡ place_of R 193
unfolding duct_end
second_there R l = crossing_there (insert (place_of R 192).east (corner_lines R true 192)) (insert (place_of R 192).north (corner_lines R false 192)) (place_of R 193) l

-- the corners' lines are the blocks' alone
corner_lines_lem : (b r s : List ℕ) (east : Bool) (i : ℕ) → i ≤ 192 → corner_lines (stored b r) east i ≡ corner_lines (stored b s) east i
unfolding corner_lines place_of
corner_lines_lem b r s east zero l = refl
corner_lines_lem b r s east (suc i) l = rw (lt-ltb i 192 (omega arith), corner_lines_lem b r s east i (omega arith))

square_lines : corner_lines (stored blocks_s []) false 192 ≡ 10 ∷ 20 ∷ []
unfolding corner_lines is_corner place_of blocks_s
square_lines = refl

-- a second end that S hides has no way to it
module _ (p q : Point) where
  second_at : place (grid_of (yard p q) 0) (duct_end (yard p q) 0) ≡ q
  unfolding place_of one_run
  second_at = second_there (yard p q) (few (place_of (yard p q) 192).north)
    where
      few : (y : ℕ) → length (insert y (corner_lines (yard p q) false 192)) < 66
      few y = rw (corner_lines_lem blocks_s (one_run p q) [] false 192 (omega arith), square_lines) (omega (arith, longer (placed y (10 ∷ 20 ∷ []))))

  pub none : obstructed S q q ≡ true → DuctIs (yard p q) 0 (2 ∷ 0 ∷ 0 ∷ []) (replicate 8712 0)
  unfolding net
  none h = no_way (λ vs r. never r)
    where
      never : {v : ℕ} {vs : List ℕ} → Path (net blocks_s (grid_of (yard p q) 0)) (duct_end (yard p q) 0) v vs → ⊥
      never (arrive s) = square_judged.hides q q h (rw second_at at s)
      never (onward s r) = never r
