-- What the book of the stored records says, in the words of the tables.
use mathlib.Core.Path.{◌≡◌, refl, sym, ap, ◌∙◌}
use mathlib.Core.List.{List, []}
use Prim.Native.Nat.{ℕ, zero, suc, ◌+◌, ◌*◌, ◌<◌}
use native.Mathlib.Omega.{arith}
use native.Mathlib.Decide.{dec_lt}
use lib.Dec.{eqb, eqb-suc-zero}
use lib.ListN.{length, get_or, get_or-eq_default}
use lib.Seq.{ext_get_or}
use Rattle.geometry.specs.Words.{Point, word, block_words, places_from, corners}
use Rattle.tables.specs.Tables.{Records, run_words, figure_of}
use Rattle.tables.proofs.Splices.{block_first, run_first}
use Rattle.book.specs.Book.{free}
use Rattle.lists.specs.Lists.{up_to}
use Rattle.lists.proofs.Values.{up_to_length, up_to_at}
use Rattle.book.specs.Edits.{book_of}

-- what holds of every value, and of an empty place, holds at every place
pub up_to_each : (n : ℕ) (f : ℕ → List Point) (P : List Point → Type 0) → P [] → ((k : ℕ) → k < n → P (f k)) → (k : ℕ) → P (get_or (up_to n f) k [])
up_to_each n f P none each k = go (dec_lt k n)
  where
    go : Dec (k < n) → P (get_or (up_to n f) k [])
    go (yes l) = rw (up_to_at f n [] k l) (each k l)
    go (no l) = rw (get_or-eq_default (up_to n f) [] {n = k} (omega (arith, up_to_length f n))) none

pub up_to_is : (l : List (List Point)) (f : ℕ → List Point) → length l ≡ 24 → ((k : ℕ) → k < 24 → f k ≡ get_or l k []) → up_to 24 f ≡ l
up_to_is l f e h =
    ext_get_or [] (up_to 24 f) l (up_to_length f 24 ∙ sym e)
    λ k b. let c : k < 24 = omega (arith, up_to_length f 24) in up_to_at f 24 [] k c ∙ h k c

pub book_block : (R : Records) (n : ℕ) → n < 24 → get_or (book_of R).blocks n [] ≡ corners (block_words R.blocks n)
unfolding book_of
book_block R n h = up_to_at (λ k. corners (block_words R.blocks k)) 24 [] n h

pub book_run : (R : Records) (m : ℕ) → m < 24 → get_or (book_of R).runs m [] ≡ places_from (run_words R.runs m) 1 (2 * word (run_words R.runs m) 0)
unfolding book_of
book_run R m h = up_to_at (λ k. places_from (run_words R.runs k) 1 (2 * word (run_words R.runs k) 0)) 24 [] m h

pub book_figure : (R : Records) → (book_of R).figure ≡ figure_of R.runs
unfolding book_of
book_figure R = refl

-- questions 4 and 5 look at a record's first word
free_places : (l : List (List Point)) (n : ℕ) (t : List ℕ) (i c : ℕ) → get_or l n [] ≡ places_from t i c → free l n ≡ eqb c 0
unfolding free places_from
free_places l n t i zero e = rw (e, free)
free_places l n t i (suc c) e = rw (e, free) (sym (eqb-suc-zero c))

pub block_free : (R : Records) (n : ℕ) → n < 24 → free (book_of R).blocks n ≡ eqb (word R.blocks (17 * n)) 0
block_free R n h =
    free_places (book_of R).blocks n (block_words R.blocks n) 1 (word (block_words R.blocks n) 0) (book_block R n h)
    ∙ ap (λ (w : ℕ). eqb w 0) (block_first R.blocks n)

twice_zero : (w : ℕ) → eqb (2 * w) 0 ≡ eqb w 0
twice_zero zero = refl
twice_zero (suc w) = let e : 2 * suc w ≡ suc (2 * w + 1) = omega arith in rw (e, eqb-suc-zero (2 * w + 1), eqb-suc-zero w)

pub run_free : (R : Records) (m : ℕ) → m < 24 → free (book_of R).runs m ≡ eqb (word R.runs (5 * m)) 0
run_free R m h =
    free_places (book_of R).runs m (run_words R.runs m) 1 (2 * word (run_words R.runs m) 0) (book_run R m h)
    ∙ twice_zero (word (run_words R.runs m) 0) ∙ ap (λ (w : ℕ). eqb w 0) (run_first R.runs m)
