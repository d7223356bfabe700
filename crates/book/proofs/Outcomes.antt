-- Every contract can be met, over any tables; by `called_unique`, `started_unique` and `checked_unique` in one way only.
use mathlib.Core.Path.{◌≡◌, refl, sym, ap, ◌∙◌}
use mathlib.Core.Logic.{◌⊎◌, inl, inr}
use mathlib.Core.List.{List, [], ◌∷◌}
use Prim.Native.Nat.{ℕ, ◌*◌, ◌<◌}
use native.Mathlib.Omega.{arith}
use native.Mathlib.Decide.{ℕ_discrete}
use lib.ListN.{length, set, drop}
use Rattle.lists.specs.Lists.{splice}
use Rattle.geometry.specs.Words.{Point, word}
use Rattle.tables.specs.Tables.{Records, Tables, records, run_words, stored, tables}
use Rattle.tables.specs.Written.{block_record, run_record}
use Rattle.tables.proofs.Splices.{run_first}
use Rattle.tables.proofs.Kept.{figure_runs, run_here, run_other}
use Rattle.records.specs.Questions.{records_right}
use Rattle.records.proofs.Places.{RunPlace, run_full}
use Rattle.visibility.proofs.Exists.{block_redrawn_exists, run_redrawn_exists}
use Rattle.routing.proofs.Fits.{routed_exists}
use Rattle.totals.specs.Totals.{totals_of}
use Rattle.book.specs.Questions.{ask, first_no, lengths_right}
use Rattle.book.specs.Book.{Edit, Target, target, answer, written}
use Rattle.book.specs.Drawing.{Drawn}
use Rattle.book.specs.Edits.{book_of, fitness, answer_over, BlockEdited, RunEdited, FigureEdited, Edited, Called, started, Started, Checked}
use Rattle.book.proofs.Questions.{Fitting, first_yes, fitting, sized_of}
use Rattle.book.proofs.Sound.{Allowed, block, run, least, accepted}
use Rattle.book.proofs.Fitting.{fitting_run, fitting_sound, fitting_drawn}
use Rattle.book.proofs.Unique.{drawn_unique}
use Rattle.book.proofs.Exists.{run_flag, drawn_exists}

flag_of : (runs : List ℕ) (m : ℕ) (ps : List Point) → run_words runs m ≡ run_record ps → RunPlace ps → (word runs (5 * m) ≡ 0) ⊎ (word runs (5 * m) ≡ 1)
flag_of runs m ps e h = rw (← run_first runs m, e) (run_flag ps h)

module _ (T : Tables) (f : Fitting T) where
  flag : (m : ℕ) → m < 24 → (word T.runs (5 * m) ≡ 0) ⊎ (word T.runs (5 * m) ≡ 1)
  flag m l = flag_of T.runs m _ (fitting_run T f m l) ((fitting_sound T f).runs m)

  block_edited : (n : ℕ) (ps : List Point) → (T' : Tables) × BlockEdited T n (block_record ps) T'
  block_edited n ps =
      let R : Records = stored (splice T.blocks (17 * n) (block_record ps)) T.runs in
      let pairs = block_redrawn_exists R n T.pairs in
      let routes = routed_exists R pairs.0 flag in
      (tables R.blocks R.runs pairs.0 routes.0 (totals_of pairs.0 routes.0), record { blocks = refl; runs = refl; pairs = pairs.1; routes = routes.1; totals = refl })

  run_edited : (m : ℕ) (ps : List Point) → m < 24 → RunPlace ps → (T' : Tables) × RunEdited T m (run_record ps) T'
  run_edited m ps l h =
      let pairs = run_redrawn_exists R m T.pairs in
      let routes = routed_exists R pairs.0 (λ k c. after k c (ℕ_discrete k m)) in
      (tables R.blocks R.runs pairs.0 routes.0 (totals_of pairs.0 routes.0), record { blocks = refl; runs = refl; pairs = pairs.1; routes = routes.1; totals = refl })
    where
      R : Records
      R = stored T.blocks (splice T.runs (5 * m) (run_record ps))

      after : (k : ℕ) → k < 24 → Dec (k ≡ m) → (word R.runs (5 * k) ≡ 0) ⊎ (word R.runs (5 * k) ≡ 1)
      after k c (yes e) = rw e (flag_of R.runs m ps (run_here (records T) R m ps l f.sized.runs (run_full ps h) refl refl) h)
      after k c (no e) =
          flag_of R.runs k _ (run_other (records T) R m ps l f.sized.runs (run_full ps h) refl refl k e ∙ fitting_run T f k c) ((fitting_sound T f).runs k)

  figure_edited : (k : ℕ) → (T' : Tables) × FigureEdited T k T'
  figure_edited k =
      let R : Records = stored T.blocks (set T.runs 120 k) in
      let routes = routed_exists R T.pairs (λ m l. flag_of R.runs m _ (figure_runs (records T) R k refl refl m l ∙ fitting_run T f m l) ((fitting_sound T f).runs m)) in
      (tables R.blocks R.runs T.pairs routes.0 (totals_of T.pairs routes.0), record { blocks = refl; runs = refl; pairs = refl; routes = routes.1; totals = refl })

  edited_exists : (p : Target) (ps : List Point) → Allowed p ps → (T' : Tables) × Edited p T ps T'
  edited_exists p ps (block {n = n} l h) = block_edited n ps
  edited_exists p ps (run {m = m} l h) = run_edited m ps l h
  edited_exists p ps (least {f = k} h) = figure_edited k

pub called_exists : (e : Edit) (T : Tables) → (T' : Tables) × Called e T (answer_over T e) T'
unfolding answer_over answer
called_exists e T = go (ℕ_discrete (answer_over T e) 0)
  where
    go : Dec (answer_over T e ≡ 0) → (T' : Tables) × Called e T (answer_over T e) T'
    go (no z) = (T, record { answer = refl; refused = λ n. refl; done = λ q. absurd (z q) })
    go (yes z) =
        let q₁ = first_yes 0 (lengths_right T) _ z in
        let q₂ = first_yes 1 (records_right (records T)) _ q₁.1 in
        let f : Fitting T = record { sized = sized_of T q₁.0; right = q₂.0 } in
        let w = edited_exists T f (target e) (written (book_of (records T)) e) (accepted (book_of (records T)) e (fitting_sound T f) q₂.1) in
        (w.0, record { answer = refl; refused = λ n. absurd (n z); done = λ q. w.1 })

pub started_exists : (T : Tables) → (r : ℕ) × (T' : Tables) × Started T r T'
started_exists T = go (ℕ_discrete (first_no (ask 1 (lengths_right T) ∷ [])) 0)
  where
    go : Dec (first_no (ask 1 (lengths_right T) ∷ []) ≡ 0) → (r : ℕ) × (T' : Tables) × Started T r T'
    go (yes z) = (0, started, record { answer = sym z; refused = λ n. absurd (n refl); done = λ q. refl })
    go (no z) = (first_no (ask 1 (lengths_right T) ∷ []), T, record { answer = refl; refused = λ n. refl; done = λ q. absurd (z q) })

-- ---- the check: whether the tables are the drawing can be told by comparing them
words_dec : (xs ys : List ℕ) → Dec (xs ≡ ys)
words_dec [] [] = yes refl
words_dec [] (y ∷ ys) = no (λ e. omega (arith, ap length e))
words_dec (x ∷ xs) [] = no (λ e. omega (arith, ap length e))
words_dec (x ∷ xs) (y ∷ ys) = go (ℕ_discrete x y) (words_dec xs ys)
  where
    go : Dec (x ≡ y) → Dec (xs ≡ ys) → Dec (x ∷ xs ≡ y ∷ ys)
    go (yes p) (yes q) = yes (λ i. p i ∷ q i)
    go (yes p) (no q) = no (λ e. q (ap (drop 1) e))
    go (no p) d = no (λ e. p (ap (λ (l : List ℕ). word l 0) e))

tables_dec : (T U : Tables) → Dec (T ≡ U)
tables_dec T U =
    go (words_dec T.blocks U.blocks) (words_dec T.runs U.runs) (words_dec T.pairs U.pairs) (words_dec T.routes U.routes) (words_dec T.totals U.totals)
  where
    go : Dec (T.blocks ≡ U.blocks) → Dec (T.runs ≡ U.runs) → Dec (T.pairs ≡ U.pairs) → Dec (T.routes ≡ U.routes) → Dec (T.totals ≡ U.totals) → Dec (T ≡ U)
    go (yes b) (yes r) (yes p) (yes s) (yes t) = yes (λ i. tables (b i) (r i) (p i) (s i) (t i))
    go (yes b) (yes r) (yes p) (yes s) (no t) = no (λ e. t (ap (λ (W : Tables). W.totals) e))
    go (yes b) (yes r) (yes p) (no s) d = no (λ e. s (ap (λ (W : Tables). W.routes) e))
    go (yes b) (yes r) (no p) d d' = no (λ e. p (ap (λ (W : Tables). W.pairs) e))
    go (yes b) (no r) d d' d'' = no (λ e. r (ap (λ (W : Tables). W.runs) e))
    go (no b) d d' d'' d''' = no (λ e. b (ap (λ (W : Tables). W.blocks) e))

pub checked_exists : (T : Tables) → (r : ℕ) × Checked T r
checked_exists T = go (ℕ_discrete (fitness T) 0)
  where
    go : Dec (fitness T ≡ 0) → (r : ℕ) × Checked T r
    go (no z) = (fitness T, record { unfit = λ n. refl; fit = λ q. absurd (z q) })
    go (yes z) = compared (tables_dec T d.0)
      where
        f : Fitting T
        f = fitting T z

        d : (U : Tables) × Drawn (book_of (records T)) U
        d = drawn_exists (book_of (records T)) (fitting_sound T f)

        compared : Dec (T ≡ d.0) → (r : ℕ) × Checked T r
        compared (yes e) = (0, record { unfit = λ n. absurd (n z); fit = λ q. inl (refl, rw e d.1.right) })
        compared (no e) = (11, record { unfit = λ n. absurd (n z); fit = λ q. inr (refl, λ r. e (drawn_unique (book_of (records T)) T d.0 (fitting_drawn T f r) d.1)) })
