-- Every sound book has a drawing; by `drawn_unique` it has just one.
use mathlib.Core.Path.{◌≡◌, refl, ◌∙◌}
use mathlib.Core.Logic.{◌⊎◌, inl, inr}
use mathlib.Core.List.{List, [], ◌∷◌, ◌++◌}
use Prim.Native.Nat.{ℕ, ◌*◌, ◌<◌}
use native.Mathlib.Omega.{arith}
use lib.ListN.{get_or, length-append}
use lib.Seq.{get_or_at}
use Rattle.geometry.specs.Words.{Point, word}
use Rattle.tables.specs.Tables.{Records, Tables, run_words, stored, tables}
use Rattle.tables.specs.Written.{block_record, run_record}
use Rattle.tables.proofs.Splices.{block_record_length, part_append, run_first}
use Rattle.tables.proofs.Joined.{RecordTable, records_exist, PairTable, pairs_exist}
use Rattle.visibility.specs.Visibility.{ByPlaces, PairIs}
use Rattle.visibility.proofs.Exists.{pair_exists, places_dec}
use Rattle.routing.specs.Routes.{RouteIs}
use Rattle.routing.proofs.Fits.{route_exists}
use Rattle.totals.specs.Totals.{totals_of}
use Rattle.book.specs.Book.{Book, Edit, empty_book, after_all}
use Rattle.book.specs.Drawing.{Drawn}
use Rattle.records.proofs.Places.{RunPlace, unused, two, block_small, run_full}
use Rattle.book.proofs.Sound.{Sound, empty_sound, all_sound}

-- a run's record begins with 0 or 1
pub run_flag : (ps : List Point) → RunPlace ps → (word (run_record ps) 0 ≡ 0) ⊎ (word (run_record ps) 0 ≡ 1)
unfolding run_record
run_flag ps unused = inl refl
run_flag ps (two h) = inr refl

pub drawn_exists : (b : Book) → Sound b → (T : Tables) × Drawn b T
drawn_exists b s = (tables R.blocks R.runs pairs.words routes.words (totals_of pairs.words routes.words), drawn)
  where
    blocks : RecordTable 17 (λ n ws. ws ≡ block_record (get_or b.blocks n [])) 24
    blocks = records_exist 17 _ 24 (λ n l. (block_record (get_or b.blocks n []), refl, block_record_length _ (block_small _ (s.blocks n))))

    runs : RecordTable 5 (λ m ws. ws ≡ run_record (get_or b.runs m [])) 24
    runs = records_exist 5 _ 24 (λ m l. (run_record (get_or b.runs m []), refl, run_full _ (s.runs m)))

    R : Records
    R = stored blocks.words (runs.words ++ b.figure ∷ [])

    run_of : (m : ℕ) → m < 24 → run_words R.runs m ≡ run_record (get_or b.runs m [])
    run_of m l = part_append runs.words (b.figure ∷ []) (5 * m) 5 (omega (arith, runs.sized)) ∙ runs.each m l

    pairs : PairTable (PairIs R)
    pairs = pairs_exist (PairIs R) (pair_exists R)

    flag : (m : ℕ) → m < 24 → (word R.runs (5 * m) ≡ 0) ⊎ (word R.runs (5 * m) ≡ 1)
    flag m l = rw (← run_first R.runs m, run_of m l) (run_flag _ (s.runs m))

    routes : RecordTable 197 (RouteIs R (ByPlaces R)) 24
    routes = records_exist 197 _ 24 (λ m l. route_exists R (ByPlaces R) (places_dec R) m (flag m l))

    drawn : Drawn b (tables R.blocks R.runs pairs.words routes.words (totals_of pairs.words routes.words))
    drawn =
        record {
          sizes = (blocks.sized, length-append runs.words (b.figure ∷ []) ∙ omega (arith, runs.sized), pairs.sized, routes.sized);
          blocks = blocks.each;
          runs = run_of;
          figure = get_or_at runs.words b.figure [] 0 120 runs.sized;
          right = record { pairs = record { each = pairs.each }; routes = routes.each; totals = refl };
        }

-- so has what any list of edits leaves
pub history_drawn_exists : (es : List Edit) → (T : Tables) × Drawn (after_all empty_book es) T
history_drawn_exists es = drawn_exists (after_all empty_book es) (all_sound empty_book es empty_sound)
