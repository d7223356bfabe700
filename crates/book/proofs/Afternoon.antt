-- The reviewer's afternoon: what no program for the seven edits can do that meets their contracts, whatever its text.
use mathlib.Core.Path.{◌≡◌, refl, sym, ap, ◌∙◌}
use mathlib.Core.List.{List, [], ◌∷◌}
use Prim.Native.Nat.{ℕ, ◌*◌, ◌-◌, ◌<◌}
use native.Mathlib.Omega.{arith}
use native.Mathlib.Decide.{ℕ_discrete}
use lib.ListN.{length, take, drop, replicate}
use lib.Seq.{take-append_seam}
use Rattle.geometry.specs.Words.{point, word}
use Rattle.lengths.specs.Length.{length_of, root_up}
use Rattle.lengths.specs.Charge.{charge}
use Rattle.paths.specs.Path.{Chain, NoChain, total}
use Rattle.tables.specs.Tables.{Records, Tables, tables, records, route_words, first_end, second_end, pair_index}
use Rattle.tables.specs.Written.{run_record}
use Rattle.tables.proofs.Splices.{word_replicate}
use Rattle.visibility.specs.Visibility.{ByPlaces, absent, clear}
use Rattle.search.specs.Network.{cost, graph}
use Rattle.routing.specs.Routes.{RouteIs, no_run, found, no_way}
use Rattle.totals.proofs.Counting.{count_few}
use Rattle.totals.proofs.Totals.{totals_count}
use Rattle.book.specs.Questions.{first_no, lengths_right}
use Rattle.book.specs.Book.{Edit, add_run, set_charge, empty_book, free, questions, answer, written, step, target, after_all}
use Rattle.book.specs.Drawing.{Drawn}
use Rattle.book.specs.Edits.{answer_over, Called, Checked, started}
use Rattle.book.specs.History.{Calls, no_calls, call, MayRewrite}
use Rattle.book.proofs.Sound.{empty_sound, all_sound, none_there}
use Rattle.book.proofs.Demand3.{drawn_answer, started_drawn, calls_drawn}
use Rattle.book.proofs.Rewrites.{rewrites_only}
use Rattle.book.proofs.Checks.{drawn_checks}
use Rattle.book.proofs.Outcomes.{called_exists}
use Rattle.book.proofs.Bare.{flag, second_absent, second_clear, there, lone_length}

-- a program: the number that it gives and the tables that it leaves, for each edit over any tables
pub record Program : Type 0 where
  pub number : Edit → Tables → ℕ
  pub leaves : Edit → Tables → Tables

-- it meets the contract of each call
abbrev pub Meets : Program → Type 0
Meets p = (e : Edit) (T : Tables) → Called e T (p.number e T) (p.leaves e T)

-- there is one, so that what follows is about something
pub meets_exists : (p : Program) × Meets p
meets_exists = (record { number = λ e T. answer_over T e; leaves = λ e T. (called_exists e T).0 }, λ e T. (called_exists e T).1)

-- the tables after a start and some edits
abbrev pub after : Program → List Edit → Tables → Tables
after p [] T = T
after p (e ∷ es) T = after p es (p.leaves e T)

abbrev pub yard : Program → List Edit → Tables
yard p es = after p es started

-- ---- what the contracts make of such a yard
calls_of : (p : Program) → Meets p → (es : List Edit) (T : Tables) → (rs : List ℕ) × Calls es T rs (after p es T)
calls_of p m [] T = ([], no_calls)
calls_of p m (e ∷ es) T = let rest = calls_of p m es (p.leaves e T) in (p.number e T ∷ rest.0, call (m e T) rest.1)

yard_drawn : (p : Program) → Meets p → (es : List Edit) → Drawn (after_all empty_book es) (yard p es)
yard_drawn p m es = let cs = calls_of p m es started in (calls_drawn empty_book started (yard p es) es cs.0 empty_sound started_drawn cs.1).1

yard_number : (p : Program) → Meets p → (es : List Edit) (e : Edit) → p.number e (yard p es) ≡ answer (after_all empty_book es) e
yard_number p m es e = (m e (yard p es)).answer ∙ drawn_answer (after_all empty_book es) (yard p es) (all_sound empty_book es empty_sound) (yard_drawn p m es) e

-- run k from (0,0) to (e,0)
abbrev run : ℕ → ℕ → Edit
run k e = add_run k (point 0 0) (point e 0)

-- an empty yard with totals that no yard has
abbrev miscounted : Tables
miscounted = tables started.blocks started.runs started.pairs started.routes (replicate 25 28681)

miscounted_answer : (e : Edit) → answer_over miscounted e ≡ answer empty_book e
unfolding answer_over lengths_right started
miscounted_answer e = drawn_answer empty_book started empty_sound started_drawn e

-- ---- the afternoon
module _ (p : Program) (m : Meets p) where
  -- says no to everything
  pub says_no : ((es : List Edit) (e : Edit) → p.number e (yard p es) ≡ 0 → ⊥) → ⊥
  unfolding after_all answer questions free first_no
  says_no f = f [] (run 0 0) (yard_number p m [] (run 0 0))

  -- answers 0 and writes nothing
  pub writes_nothing : ((es : List Edit) (e : Edit) → p.number e (yard p es) ≡ 0 → p.leaves e (yard p es) ≡ yard p es) → ⊥
  unfolding after_all step written answer questions free first_no run_record
  writes_nothing f =
      let same : p.leaves (run 0 0) started ≡ started = f [] (run 0 0) (yard_number p m [] (run 0 0)) in
      let one : word (p.leaves (run 0 0) started).runs 0 ≡ 1 = flag _ _ (yard_drawn p m (run 0 0 ∷ [])) 0 (omega arith) in
      let none : word started.runs 0 ≡ 0 = flag _ _ started_drawn 0 (omega arith) in
      omega (arith, ap (λ (T : Tables). word T.runs 0) same)

  -- draws the pairs after the first edit and never again
  pub draws_once : ((e₁ e : Edit) (es : List Edit) → (p.leaves e (yard p (e₁ ∷ es))).pairs ≡ (yard p (e₁ ∷ es)).pairs) → ⊥
  unfolding after_all step written answer questions free first_no run_record
  draws_once f =
      let kept = ap (λ (ps : List ℕ). word ps (pair_index 194 195)) (f (run 0 0) (run 1 0) []) in
      let absent = second_absent _ _ (yard_drawn p m (run 0 0 ∷ [])) refl in
      let clear = second_clear _ _ (yard_drawn p m (run 0 0 ∷ run 1 0 ∷ [])) (none_there 24) refl in
      omega arith

  -- changes a byte that the edit may not rewrite, over any tables
  pub writes_more : (e : Edit) (T : Tables) (i j : ℕ) → i < j → j < 240 → (MayRewrite (target e) T (p.leaves e T) i j → ⊥)
      → word (p.leaves e T).pairs (pair_index i j) ≡ word T.pairs (pair_index i j)
  writes_more e T i j h l f = go (ℕ_discrete _ _)
    where
      go : Dec (word (p.leaves e T).pairs (pair_index i j) ≡ word T.pairs (pair_index i j)) → word (p.leaves e T).pairs (pair_index i j) ≡ word T.pairs (pair_index i j)
      go (yes s) = s
      go (no s) = absurd (f (rewrites_only e T (p.leaves e T) (p.number e T) (m e T) i j h l s))

  -- shows each run a fixed route, whatever the yard
  pub fixed_route : (ws : ℕ → List ℕ) → ((es : List Edit) (k : ℕ) → k < 24 → word (yard p es).runs (5 * k) ≡ 1 → route_words (yard p es).routes k ≡ ws k) → ⊥
  unfolding after_all step written answer questions free first_no length_of root_up charge
  fixed_route ws f =
      let none = yard_drawn p m (run 0 0 ∷ []) in
      let one = yard_drawn p m (run 0 1 ∷ []) in
      let d : word (ws 0) 1 ≡ 0 = ap (λ (s : List ℕ). word s 1) (sym (f (run 0 0 ∷ []) 0 (omega arith) (there _ _ 0 _ none))) ∙ lone_length (point 0 0) (point 0 0) 0 _ none in
      let e : word (ws 0) 1 ≡ 1 = ap (λ (s : List ℕ). word s 1) (sym (f (run 0 1 ∷ []) 0 (omega arith) (there _ _ 0 _ one))) ∙ lone_length (point 0 0) (point 1 0) 0 _ one in
      omega arith

  -- sets the figure and leaves the routes as they were
  pub old_routes : ((es : List Edit) (f : ℕ) → (p.leaves (set_charge f) (yard p es)).routes ≡ (yard p es).routes) → ⊥
  unfolding after_all step written answer questions free first_no length_of root_up charge
  old_routes f =
      let one = lone_length (point 0 0) (point 1 0) 0 _ (yard_drawn p m (run 0 1 ∷ [])) in
      let two = lone_length (point 0 0) (point 1 0) 2 _ (yard_drawn p m (run 0 1 ∷ set_charge 2 ∷ [])) in
      omega (arith, ap (λ (s : List ℕ). word (route_words s 0) 1) (f (run 0 1 ∷ []) 2))

  -- leaves the count of some block as it was, as one that renews the edited block's alone
  pub old_count : (k : ℕ) → k < 24 → ((e : Edit) (T : Tables) → p.number e T ≡ 0 → word (p.leaves e T).totals k ≡ word T.totals k) → ⊥
  unfolding answer questions free first_no
  old_count k l f =
      let z : p.number (run 0 0) miscounted ≡ 0 = (m (run 0 0) miscounted).answer ∙ miscounted_answer (run 0 0) in
      let e = (m (run 0 0) miscounted).done z in
      let T = p.leaves (run 0 0) miscounted in
      omega (arith, f (run 0 0) miscounted z, ap (λ (t : List ℕ). word t k) e.totals, totals_count T.pairs T.routes k l, count_few k T.pairs, e.pairs.sized, word_replicate 25 k 28681 (omega arith))

  -- refuses an edit and writes totals
  pub refused_totals : (e : Edit) (T : Tables) → (p.number e T ≡ 0 → ⊥) → (p.leaves e T).totals ≡ T.totals
  refused_totals e T n = ap (λ (U : Tables). U.totals) ((m e T).refused n)

  -- takes a length or a count from the air: what it stores of a route is the sum along the marks that it stores, so many of them, and they are a chain
  pub from_the_chain : (es : List Edit) (k : ℕ) → k < 24 → (ws : List ℕ) → route_words (yard p es).routes k ≡ ws → word ws 0 ≡ 1
      → Chain (graph (records (yard p es)) (ByPlaces (records (yard p es)))) (second_end k) (first_end k) (take (word ws 2) (drop 3 ws))
      × (word ws 1 ≡ total (cost (records (yard p es))) (take (word ws 2) (drop 3 ws)))
  from_the_chain es k l ws e s = go (rw e at ((yard_drawn p m es).right.routes k l)) s
    where
      R : Records
      R = records (yard p es)

      go : {ws : List ℕ} → RouteIs R (ByPlaces R) k ws → word ws 0 ≡ 1
          → Chain (graph R (ByPlaces R)) (second_end k) (first_end k) (take (word ws 2) (drop 3 ws)) × (word ws 1 ≡ total (cost R) (take (word ws 2) (drop 3 ws)))
      go (no_run e) s = absurd (omega arith)
      go (no_way e f) s = absurd (omega arith)
      go (found e us r) s = rw (take-append_seam us (replicate (194 - length us) 0)) (r.chain, refl)

  -- says no way where there is a chain
  pub no_way_seen : (es : List Edit) (k : ℕ) → k < 24 → word (route_words (yard p es).routes k) 0 ≡ 2
      → NoChain (graph (records (yard p es)) (ByPlaces (records (yard p es)))) (first_end k) (second_end k)
  no_way_seen es k l s = go ((yard_drawn p m es).right.routes k l) s
    where
      R : Records
      R = records (yard p es)

      go : {ws : List ℕ} → RouteIs R (ByPlaces R) k ws → word ws 0 ≡ 2 → NoChain (graph R (ByPlaces R)) (first_end k) (second_end k)
      go (no_run e) s = absurd (omega arith)
      go (no_way e f) s = f
      go (found e us r) s = absurd (omega arith)

  -- a check that says no to a yard that such a program left
  pub check_says_yes : (c : Tables → ℕ) → ((T : Tables) → Checked T (c T)) → (es : List Edit) → c (yard p es) ≡ 0
  check_says_yes c k es = drawn_checks (after_all empty_book es) (yard p es) _ (all_sound empty_book es empty_sound) (yard_drawn p m es) (k (yard p es))
