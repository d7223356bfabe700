-- Demand 3, proved: by induction over the calls, the tables stay the drawing of the book.
use mathlib.Core.Path.{◌≡◌, refl, sym, ap, ◌∙◌}
use mathlib.Core.Logic.{◌≢◌}
use mathlib.Core.List.{List, []}
use mathlib.Core.Bool.{true, false, ◌&&◌, and-false}
use Prim.Native.Nat.{ℕ, ◌*◌, ◌-◌, ◌/◌, ◌%◌, ◌<◌, ◌≤◌}
use native.Mathlib.Omega.{arith}
use native.Mathlib.Decide.{ℕ_discrete}
use lib.Dec.{ltb, leb}
use lib.ListN.{length, get_or, length-replicate}
use borrow.Author.Tests.{le-leb, le-ltb}
use Rattle.geometry.specs.Words.{Point, block_words, corners, places_from, word}
use Rattle.tables.specs.Tables.{OnBlock, OnRun, Tables, is_corner, is_end, pair_index, present, records, route_words, run_words}
use Rattle.tables.specs.Written.{block_record, run_record}
use Rattle.records.specs.Questions.{block_right, records_right, run_right}
use Rattle.visibility.specs.Visibility.{ByPlaces, PairIs, PairsRight}
use Rattle.routing.specs.Routes.{RouteIs, no_run}
use Rattle.book.specs.Questions.{first_no, lengths_right}
use Rattle.book.specs.Book.{Book, Edit, Target, after_all, answer, answers, empty_book, step, target, with_block, with_figure, with_run, write, written}
use Rattle.book.specs.Drawing.{Drawn}
use Rattle.book.specs.Edits.{BlockEdited, Called, Edited, FigureEdited, RunEdited, answer_over, book_of, started}
use Rattle.book.specs.History.{Calls, Demand3, call, no_calls}
use Rattle.tables.proofs.Splices.{block_record_none, corners_record, part_replicate, run_record_none, word_replicate, word_zeros}
use Rattle.tables.proofs.Kept.{Same, block_here, block_other, block_same, block_size_lem, figure_here, figure_runs, figure_same, figure_size, run_figure, run_here, run_other, run_same, run_size}
use Rattle.tables.proofs.Pairs.{pair_in}
use Rattle.totals.proofs.Totals.{totals_length, totals_none}
use Rattle.visibility.proofs.Lasting.{block_pair, pair_on, run_pair}
use Rattle.lists.proofs.Below.{all_yes}
use Rattle.book.proofs.Sound.{Allowed, Sound, accepted, block, empty_sound, least, none_there, place_after, run, step_done, step_refused, write_sound}
use Rattle.book.proofs.Stored.{up_to_is}
use Rattle.records.proofs.Places.{BlockPlace, RunPlace, block_right_lem, block_small, run_full, run_right_lem, ends_record}
use Rattle.book.proofs.Rerouting.{route_right}

module _ (b : Book) (T : Tables) (s : Sound b) (d : Drawn b T) where
  pub drawn_lengths : lengths_right T ≡ true
  unfolding lengths_right
  drawn_lengths = rw (d.sizes.0, d.sizes.1, d.sizes.2, d.sizes.3, d.right.totals, totals_length T.pairs T.routes)

  pub drawn_records : records_right (records T) ≡ true
  unfolding records_right
  drawn_records =
      rw (
        all_yes (λ n. block_right (block_words T.blocks n)) 24 (λ n l. rw (d.blocks n l) (block_right_lem (get_or b.blocks n []) (s.blocks n))),
        all_yes (λ m. run_right (run_words T.runs m)) 24 (λ m l. rw (d.runs m l) (run_right_lem (get_or b.runs m []) (s.runs m))),
        d.figure,
        le-leb b.figure 1000 s.figure,
      )

  pub drawn_book : book_of (records T) ≡ b
  unfolding book_of
  drawn_book =
      let p = up_to_is b.blocks (λ n. corners (block_words T.blocks n)) s.block_count (λ n l. rw (d.blocks n l) (corners_record (get_or b.blocks n []))) in
      let q = up_to_is b.runs (λ m. places_from (run_words T.runs m) 1 (2 * word (run_words T.runs m) 0)) s.run_count
      (λ m l. rw (d.runs m l) (ends_record (get_or b.runs m []) (s.runs m))) in
      λ i. record { blocks = p i; runs = q i; figure = d.figure i }

  pub drawn_answer : (e : Edit) → answer_over T e ≡ answer b e
  unfolding answer_over answer first_no
  drawn_answer e = rw (drawn_lengths, drawn_records, drawn_book)

-- words of the empty tables
started_absent : (i : ℕ) → present (records started) i ≡ false
unfolding present is_corner is_end started
started_absent i = rw (word_zeros 408 (17 * (i / 8)), le-ltb (i % 8) 0 (omega arith), word_zeros 121 (5 * ((i - 192) / 2)), and-false (ltb i 192), and-false (leb 192 i && ltb i 240))

started_pair : (i j : ℕ) → i < j → j < 240 → PairIs (records started) i j (word started.pairs (pair_index i j))
unfolding started
started_pair i j h l = PairIs.absent (rw (started_absent i)) (word_replicate 28680 (pair_index i j) 255 (pair_in i j h l))

started_route : (m : ℕ) → m < 24 → RouteIs (records started) (ByPlaces (records started)) m (route_words started.routes m)
unfolding started
started_route m l = rw (part_replicate 4728 (197 * m) 197 0 (omega arith)) (no_run (word_zeros 121 (5 * m)))

pub started_drawn : Drawn empty_book started
unfolding started
started_drawn =
    record {
      sizes = (length-replicate {A = ℕ} 408 0, length-replicate {A = ℕ} 121 0, length-replicate {A = ℕ} 28680 255, length-replicate {A = ℕ} 4728 0);
      blocks = λ n l. rw (none_there 24 n) (part_replicate 408 (17 * n) 17 0 (omega arith) ∙ sym block_record_none);
      runs = λ m l. rw (none_there 24 m) (part_replicate 121 (5 * m) 5 0 (omega arith) ∙ sym run_record_none);
      figure = word_zeros 121 120;
      right = record { pairs = record { each = started_pair }; routes = started_route; totals = sym totals_none };
    }

block_drawn : (b : Book) (T T' : Tables) (n : ℕ) (ps : List Point) → Sound b → Drawn b T → n < 24 → BlockPlace ps → BlockEdited T n (block_record ps) T' → Drawn (with_block b n ps) T'
block_drawn b T T' n ps s d l h e =
    record {
      sizes = (block_size_lem (records T) (records T') n ps l d.sizes.0 small e.blocks e.runs, ap length e.runs ∙ d.sizes.1, e.pairs.sized, e.routes.sized);
      blocks = λ k c.
          place_after b.blocks n k ps (λ qs. block_words T'.blocks k ≡ block_record qs) (omega arith)
          (λ q. rw q (block_here (records T) (records T') n ps l d.sizes.0 small e.blocks e.runs))
          (λ q. other k q ∙ d.blocks k c);
      runs = λ m c. rw e.runs (d.runs m c);
      figure = rw e.runs d.figure;
      right = record { pairs = pairs; routes = λ m c. route_right (records T') T'.pairs pairs m _ c (e.routes.each m c); totals = e.totals };
    }
  where
    small : length ps ≤ 8
    small = block_small ps h

    other : (k : ℕ) → k ≢ n → block_words T'.blocks k ≡ block_words T.blocks k
    other = block_other (records T) (records T') n ps l d.sizes.0 small e.blocks e.runs

    same : (i : ℕ) → (OnBlock n i → ⊥) → Same (records T) (records T') i
    same = block_same (records T) (records T') n ps l d.sizes.0 small e.blocks e.runs

    pairs : PairsRight (records T') T'.pairs
    pairs = record { each = λ i j a c. block_pair (records T) (records T') n i j _ _ l other (e.pairs.each i j a c) (same i) (same j) (d.right.pairs.each i j a c) }

run_drawn : (b : Book) (T T' : Tables) (m : ℕ) (ps : List Point) → Sound b → Drawn b T → m < 24 → RunPlace ps → RunEdited T m (run_record ps) T' → Drawn (with_run b m ps) T'
run_drawn b T T' m ps s d l h e =
    record {
      sizes = (ap length e.blocks ∙ d.sizes.0, run_size (records T) (records T') m ps l d.sizes.1 full e.blocks e.runs, e.pairs.sized, e.routes.sized);
      blocks = λ n c. rw e.blocks (d.blocks n c);
      runs = λ k c.
          place_after b.runs m k ps (λ qs. run_words T'.runs k ≡ run_record qs) (omega arith)
          (λ q. rw q (run_here (records T) (records T') m ps l d.sizes.1 full e.blocks e.runs))
          (λ q. run_other (records T) (records T') m ps l d.sizes.1 full e.blocks e.runs k q ∙ d.runs k c);
      figure = run_figure (records T) (records T') m ps l d.sizes.1 full e.blocks e.runs ∙ d.figure;
      right = record { pairs = pairs; routes = λ k c. route_right (records T') T'.pairs pairs k _ c (e.routes.each k c); totals = e.totals };
    }
  where
    full : length (run_record ps) ≡ 5
    full = run_full ps h

    same : (i : ℕ) → (OnRun m i → ⊥) → Same (records T) (records T') i
    same = run_same (records T) (records T') m ps l d.sizes.1 full e.blocks e.runs

    pairs : PairsRight (records T') T'.pairs
    pairs = record { each = λ i j a c. run_pair (records T) (records T') m i j _ _ e.blocks (same i) (same j) (e.pairs.each i j a c) (d.right.pairs.each i j a c) }

figure_drawn : (b : Book) (T T' : Tables) (f : ℕ) → Drawn b T → FigureEdited T f T' → Drawn (with_figure b f) T'
figure_drawn b T T' f d e =
    record {
      sizes = (ap length e.blocks ∙ d.sizes.0, figure_size (records T) (records T') f e.blocks e.runs ∙ d.sizes.1, ap length e.pairs ∙ d.sizes.2, e.routes.sized);
      blocks = λ n c. rw e.blocks (d.blocks n c);
      runs = λ m c. figure_runs (records T) (records T') f e.blocks e.runs m c ∙ d.runs m c;
      figure = figure_here (records T) (records T') f e.blocks e.runs (omega (arith, d.sizes.1));
      right = record { pairs = rw e.pairs pairs; routes = λ m c. route_right (records T') T.pairs pairs m _ c (e.routes.each m c); totals = e.totals };
    }
  where
    same : (i : ℕ) → i < 240 → Same (records T) (records T') i
    same = figure_same (records T) (records T') f e.blocks e.runs

    pairs : PairsRight (records T') T.pairs
    pairs = record { each = λ i j a c. pair_on (records T) (records T') i j _ (λ k. rw e.blocks) (same i (omega arith)) (same j c) (d.right.pairs.each i j a c) }

write_drawn : (b : Book) (T T' : Tables) (p : Target) (ps : List Point) → Sound b → Drawn b T → Allowed p ps → Edited p T ps T' → Drawn (write b p ps) T'
write_drawn b T T' p ps s d (block {n = n} l h) e = block_drawn b T T' n ps s d l h e
write_drawn b T T' p ps s d (run {m = m} l h) e = run_drawn b T T' m ps s d l h e
write_drawn b T T' p ps s d (least {f = f} h) e = figure_drawn b T T' f d e

-- one call: the book's answer, and the drawing of the book's next state
pub call_drawn : (b : Book) (e : Edit) (T T' : Tables) (r : ℕ) → Sound b → Drawn b T → Called e T r T'
    → (r ≡ answer b e) × Sound (step b e) × Drawn (step b e) T'
call_drawn b e T T' r s d c = go (ℕ_discrete r 0)
  where
    same : r ≡ answer b e
    same = c.answer ∙ drawn_answer b T s d e

    go : Dec (r ≡ 0) → (r ≡ answer b e) × Sound (step b e) × Drawn (step b e) T'
    go (yes z) =
        let a : answer b e ≡ 0 = sym same ∙ z in
        let w = accepted b e s a in (
          same,
          rw (step_done b e a) (write_sound b (target e) (written b e) s w),
          rw (step_done b e a) (write_drawn b T T' (target e) (written b e) s d w (rw (drawn_book b T s d) at (c.done z))),
        )
    go (no z) =
        let a : answer b e ≡ 0 → ⊥ = λ q. z (same ∙ q) in
        (same, rw (step_refused b e a) s, rw (step_refused b e a, c.refused z) d)

pub calls_drawn : (b : Book) (T T' : Tables) (es : List Edit) (rs : List ℕ) → Sound b → Drawn b T → Calls es T rs T'
    → (rs ≡ answers b es) × Drawn (after_all b es) T'
unfolding answers after_all
calls_drawn b T T' es rs s d no_calls = (refl, d)
calls_drawn b T T' es rs s d (call {e = e} {es = es₁} {T₁ = T₁} {r = r} {rs = rs₁} c cs) =
    let one = call_drawn b e T T₁ r s d c in
    let rest = calls_drawn (step b e) T₁ T' es₁ rs₁ one.1 one.2 cs in
    (rw (one.0, rest.0), rest.1)

pub demand3 : Demand3
demand3 T₀ T T' es rs st cs =
    calls_drawn empty_book T T' es rs empty_sound (rw (st.done refl) started_drawn) cs
