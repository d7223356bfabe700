-- Drawn yards: where run 0's ends are; with no blocks every straight is clear, and the route of a run that stands alone is the straight between its ends.
use mathlib.Core.Path.{◌≡◌, refl, sym, ap, ◌∙◌}
use mathlib.Core.List.{List, [], ◌∷◌}
use mathlib.Core.Bool.{true, false, true≢false}
use Prim.Native.Nat.{ℕ, ◌+◌, ◌*◌, ◌/◌, ◌%◌, ◌<◌}
use native.Mathlib.Omega.{arith}
use lib.Dec.{ltb}
use lib.ListN.{get_or, replicate}
use borrow.Author.Tests.{ltb-true}
use Rattle.geometry.specs.Words.{Point, point, word, block_words}
use Rattle.lengths.specs.Length.{length_of}
use Rattle.lengths.specs.Charge.{charge}
use Rattle.lists.proofs.Every.{both}
use Rattle.paths.specs.Path.{Chain, last, more, total}
use Rattle.tables.specs.Tables.{Tables, records, route_words, is_corner, is_end, present, place_of, pair_index}
use Rattle.tables.specs.Written.{block_record, run_record, place_words}
use Rattle.tables.proofs.Splices.{block_first, run_first, run_word}
use Rattle.visibility.specs.Visibility.{ByPlaces, ClearBetween, PairIs, absent, clear, seam, hidden, both_present}
use Rattle.search.specs.Network.{cost, graph}
use Rattle.routing.specs.Routes.{RouteIs, no_run, found, no_way}
use Rattle.book.specs.Book.{Book, empty_book, with_run, with_figure}
use Rattle.book.specs.Drawing.{Drawn}
use Rattle.book.proofs.Sound.{none_there}

module _ (b : Book) (T : Tables) (d : Drawn b T) where
  pub flag : (m : ℕ) → m < 24 → word T.runs (5 * m) ≡ word (run_record (get_or b.runs m [])) 0
  flag m l = sym (run_first T.runs m) ∙ ap (λ (ws : List ℕ). word ws 0) (d.runs m l)

  -- run 0 goes from p to q
  module _ (p q : Point) (run : get_or b.runs 0 [] ≡ p ∷ q ∷ []) where
    run_is : (k : ℕ) → k < 5 → word T.runs (5 * 0 + k) ≡ word (run_record (p ∷ q ∷ [])) k
    run_is k l = sym (run_word T.runs 0 k l) ∙ ap (λ (ws : List ℕ). word ws k) (d.runs 0 (omega arith) ∙ ap run_record run)

    pub run_there : word T.runs 0 ≡ 1
    unfolding run_record
    run_there = run_is 0 (omega arith)

    pub first_place : place_of (records T) 192 ≡ p
    unfolding place_of run_record place_words
    first_place = let e = run_is 1 (omega arith) in let n = run_is 2 (omega arith) in λ i. point (e i) (n i)

    pub second_place : place_of (records T) 193 ≡ q
    unfolding place_of run_record place_words
    second_place = let e = run_is 3 (omega arith) in let n = run_is 4 (omega arith) in λ i. point (e i) (n i)

  -- the byte of run 1's two ends, where the run is not there
  pub second_absent : word (run_record (get_or b.runs 1 [])) 0 ≡ 0 → word T.pairs (pair_index 194 195) ≡ 255
  unfolding present is_corner is_end
  second_absent z = go (d.right.pairs.each 194 195 (omega arith) (omega arith))
    where
      gone : both_present (records T) 194 195 ≡ false
      gone = rw (flag 1 (omega arith), z)

      go : {y : ℕ} → PairIs (records T) 194 195 y → y ≡ 255
      go (absent e o) = o
      go (clear e c o) = absurd (true≢false (sym e ∙ gone))
      go (seam e c o) = absurd (true≢false (sym e ∙ gone))
      go (hidden e l h n) = absurd (true≢false (sym e ∙ gone))

  module _ (bare : (n : ℕ) → get_or b.blocks n [] ≡ []) where
    no_block : (n : ℕ) → n < 24 → word (block_words T.blocks n) 0 ≡ 0
    unfolding block_record
    no_block n l = ap (λ (ws : List ℕ). word ws 0) (d.blocks n l ∙ ap block_record (bare n))

    no_corner : (u : ℕ) → is_corner T.blocks u ≡ true → ⊥
    unfolding is_corner
    no_corner u h =
        let t = both (ltb u 192) (ltb (u % 8) (word T.blocks (17 * (u / 8)))) h in
        let l : u < 192 = ltb-true u 192 t.0 in
        let s = ltb-true (u % 8) (word T.blocks (17 * (u / 8))) t.1 in
        omega (arith, block_first T.blocks (u / 8), no_block (u / 8) (omega arith))

    all_clear : (i j : ℕ) → ClearBetween (records T) i j
    all_clear i j = record { seen = λ n l h. omega (arith, h.stands, no_block n l); unshared = λ h. omega (arith, h.first.stands, no_block h.p h.first.number) }

    -- and where it is
    pub second_clear : word (run_record (get_or b.runs 1 [])) 0 ≡ 1 → word T.pairs (pair_index 194 195) ≡ 254
    unfolding present is_corner is_end
    second_clear o = go (d.right.pairs.each 194 195 (omega arith) (omega arith))
      where
        ends : both_present (records T) 194 195 ≡ true
        ends = rw (flag 1 (omega arith), o)

        go : {y : ℕ} → PairIs (records T) 194 195 y → y ≡ 254
        go (absent e q) = absurd (true≢false (sym ends ∙ e))
        go (clear e c q) = q
        go (seam e c q) = absurd ((all_clear 194 195).unshared c.shared)
        go (hidden e l h n) = absurd ((all_clear 194 195).seen _ l h)

-- run 0 alone, under a figure: its route is the straight between its ends
module _ (a q : Point) (f : ℕ) (T : Tables) (d : Drawn (with_figure (with_run empty_book 0 (a ∷ q ∷ [])) f) T) where
  bare : (n : ℕ) → ◌≡◌ {A = List Point} (get_or (replicate 24 []) n []) []
  bare n = none_there 24 n

  pub there : word T.runs 0 ≡ 1
  there = run_there _ T d a q refl

  ends : both_present (records T) 192 193 ≡ true
  unfolding present is_corner is_end
  ends = rw there

  straight : Chain (graph (records T) (ByPlaces (records T))) 193 192 (192 ∷ 193 ∷ [])
  straight = let apart : ◌≡◌ {A = ℕ} 192 193 → ⊥ = λ e. omega arith in last (apart, (ends, all_clear _ T d bare 192 193))

  costs : cost (records T) 192 193 ≡ charge f (length_of a q)
  unfolding cost
  costs = rw (d.figure, first_place _ T d a q refl, second_place _ T d a q refl)

  pub lone_length : word (route_words T.routes 0) 1 ≡ charge f (length_of a q)
  lone_length = go (d.right.routes 0 (omega arith))
    where
      go : {ws : List ℕ} → RouteIs (records T) (ByPlaces (records T)) 0 ws → word ws 1 ≡ charge f (length_of a q)
      go (no_run e) = absurd (omega (arith, there))
      go (no_way e none) = absurd (none _ straight)
      go (found e us r) = only r.chain
        where
          only : {vs : List ℕ} → Chain (graph (records T) (ByPlaces (records T))) 193 192 vs → total (cost (records T)) vs ≡ charge f (length_of a q)
          only (last e) = rw costs (omega arith)
          only (more i e c) = absurd (no_corner _ T d bare _ i)
