-- What an accepted edit puts into the book is what question 2 allows of a stored record.
use mathlib.Core.Path.{◌≡◌, refl, sym, ◌∙◌}
use mathlib.Core.Logic.{◌≢◌}
use mathlib.Core.List.{List, [], ◌∷◌}
use mathlib.Core.Bool.{true, not, true≢false}
use Prim.Native.Nat.{ℕ, zero, suc, ◌<◌, ◌≤◌}
use native.Mathlib.Omega.{arith}
use native.Mathlib.Decide.{ℕ_discrete}
use lib.ListN.{length, get_or, set, replicate, length-set}
use lib.Seq.{get_or-set_same, get_or-set_other}
use borrow.Author.Tests.{ltb-true, leb-true}
use Rattle.geometry.specs.Words.{Point}
use Rattle.records.proofs.Places.{StandingCorners, BlockPlace, vacant, standing, RunPlace, unused, two, new_standing}
use Rattle.moves.proofs.Standing.{shifted_standing}
use Rattle.book.specs.Book.{Book, Edit, Target, add_block, add_run, after_all, answer, empty_book, free, move_block, move_run, questions, remove_block, remove_run, set_charge, step, target, the_block, the_figure, the_run, with_block, with_figure, with_run, write, written}
use Rattle.book.proofs.Questions.{first_yes}

-- every place holds what may stand there, and the figure is one that may be set
pub record Sound (b : Book) : Type 0 where
  pub block_count : length b.blocks ≡ 24
  pub run_count : length b.runs ≡ 24
  pub blocks : (n : ℕ) → BlockPlace (get_or b.blocks n [])
  pub runs : (m : ℕ) → RunPlace (get_or b.runs m [])
  pub figure : b.figure ≤ 1000

pub none_there : (k n : ℕ) → ◌≡◌ {A = List Point} (get_or (replicate k []) n []) []
none_there zero n = refl
none_there (suc k) zero = refl
none_there (suc k) (suc n) = none_there k n

pub empty_sound : Sound empty_book
empty_sound =
    record {
      block_count = refl;
      run_count = refl;
      blocks = λ n. rw (none_there 24 n) vacant;
      runs = λ m. rw (none_there 24 m) unused;
      figure = omega arith;
    }

-- the place of a book that an edit wrote, and the others
pub place_after : (l : List (List Point)) (n k : ℕ) (ps : List Point) (P : List Point → Type 0) → n < length l → (k ≡ n → P ps) → (k ≢ n → P (get_or l k []))
    → P (get_or (set l n ps) k [])
place_after l n k ps P b hit miss = go (ℕ_discrete k n)
  where
    go : Dec (k ≡ n) → P (get_or (set l n ps) k [])
    go (yes e) = rw (e, get_or-set_same l n ps [] b) (hit e)
    go (no e) = rw (get_or-set_other l n k ps [] e) (miss e)

pub block_sound : (b : Book) (n : ℕ) (ps : List Point) → n < 24 → Sound b → BlockPlace ps → Sound (with_block b n ps)
block_sound b n ps l s h =
    record {
      block_count = length-set b.blocks n ps ∙ s.block_count;
      run_count = s.run_count;
      blocks = λ k. place_after b.blocks n k ps BlockPlace (omega arith) (λ q. h) (λ q. s.blocks k);
      runs = s.runs;
      figure = s.figure;
    }

pub run_sound : (b : Book) (m : ℕ) (ps : List Point) → m < 24 → Sound b → RunPlace ps → Sound (with_run b m ps)
run_sound b m ps l s h =
    record {
      block_count = s.block_count;
      run_count = length-set b.runs m ps ∙ s.run_count;
      blocks = s.blocks;
      runs = λ k. place_after b.runs m k ps RunPlace (omega arith) (λ q. h) (λ q. s.runs k);
      figure = s.figure;
    }

figure_sound : (b : Book) (f : ℕ) → f ≤ 1000 → Sound b → Sound (with_figure b f)
figure_sound b f h s = record { block_count = s.block_count; run_count = s.run_count; blocks = s.blocks; runs = s.runs; figure = h }

-- a taken place holds a standing block
taken_fit : (l : List (List Point)) (n : ℕ) → not (free l n) ≡ true → BlockPlace (get_or l n []) → StandingCorners (get_or l n [])
unfolding free
taken_fit l n h s = go (get_or l n []) refl s
  where
    go : (ps : List Point) → get_or l n [] ≡ ps → BlockPlace ps → StandingCorners (get_or l n [])
    go ps e vacant = absurd (true≢false (sym (rw (e, free) at h)))
    go ps e (standing f) = rw e f

-- what may stand at a place of a book, and which figure may be set
pub data Allowed : Target → List Point → Type 0 where
  block : {n : ℕ} {ps : List Point} → n < 24 → BlockPlace ps → Allowed (the_block n) ps
  run : {m : ℕ} {ps : List Point} → m < 24 → RunPlace ps → Allowed (the_run m) ps
  least : {f : ℕ} {ps : List Point} → f ≤ 1000 → Allowed (the_figure f) ps

-- an edit whose questions are all answered yes writes what may stand at its place
pub accepted : (b : Book) (e : Edit) → Sound b → answer b e ≡ 0 → Allowed (target e) (written b e)
unfolding answer questions written
accepted b (add_block n ws) s h =
    let q₃ = first_yes 2 _ _ h in
    let q₄ = first_yes 3 _ _ q₃.1 in
    let q₆ = first_yes 5 _ _ q₄.1 in
    let q₇ = first_yes 6 _ _ q₆.1 in
    let q₈ = first_yes 7 _ _ q₇.1 in
    block (ltb-true n 24 q₃.0) (standing (new_standing ws q₆.0 q₇.0 q₈.0))
accepted b (remove_block n) s h = block (ltb-true n 24 (first_yes 2 _ _ h).0) vacant
accepted b (move_block n de dn) s h =
    let q₃ = first_yes 2 _ _ h in
    let q₅ = first_yes 4 _ _ q₃.1 in
    let q₇ = first_yes 6 _ _ q₅.1 in
    block (ltb-true n 24 q₃.0) (standing (shifted_standing de dn (get_or b.blocks n []) (taken_fit b.blocks n q₅.0 (s.blocks n)) q₇.0))
accepted b (add_run m p q) s h =
    let q₃ = first_yes 2 _ _ h in
    let q₄ = first_yes 3 _ _ q₃.1 in
    run (ltb-true m 24 q₃.0) (two (first_yes 6 _ _ q₄.1).0)
accepted b (remove_run m) s h = run (ltb-true m 24 (first_yes 2 _ _ h).0) unused
accepted b (move_run m p q) s h =
    let q₃ = first_yes 2 _ _ h in
    let q₅ = first_yes 4 _ _ q₃.1 in
    run (ltb-true m 24 q₃.0) (two (first_yes 6 _ _ q₅.1).0)
accepted b (set_charge f) s h = least (leb-true f 1000 (first_yes 12 _ _ h).0)

pub write_sound : (b : Book) (p : Target) (ps : List Point) → Sound b → Allowed p ps → Sound (write b p ps)
write_sound b p ps s (block {n = n} l h) = block_sound b n ps l s h
write_sound b p ps s (run {m = m} l h) = run_sound b m ps l s h
write_sound b p ps s (least {f = f} h) = figure_sound b f h s

-- ---- one step, and any list of edits
pub step_done : (b : Book) (e : Edit) → answer b e ≡ 0 → step b e ≡ write b (target e) (written b e)
unfolding step
step_done b e h = rw (h, step)

pub step_refused : (b : Book) (e : Edit) → (answer b e ≡ 0 → ⊥) → step b e ≡ b
unfolding step
step_refused b e h = go (answer b e) refl
  where
    go : (r : ℕ) → answer b e ≡ r → step b e ≡ b
    go zero q = absurd (h q)
    go (suc r) q = rw (q, step)

step_sound : (b : Book) (e : Edit) → Sound b → Sound (step b e)
step_sound b e s = go (ℕ_discrete (answer b e) 0)
  where
    go : Dec (answer b e ≡ 0) → Sound (step b e)
    go (yes z) = rw (step_done b e z) (write_sound b (target e) (written b e) s (accepted b e s z))
    go (no z) = rw (step_refused b e z) s

pub all_sound : (b : Book) (es : List Edit) → Sound b → Sound (after_all b es)
unfolding after_all
all_sound b [] s = s
all_sound b (e ∷ es) s = all_sound (step b e) es (step_sound b e s)
