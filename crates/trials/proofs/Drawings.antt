-- What the drawing of a book with run 0 holds, read off the book's places by computed tests.
use mathlib.Core.Path.{◌≡◌, refl, sym, ap, ◌∙◌}
use mathlib.Core.List.{List, [], ◌∷◌}
use mathlib.Core.Logic.{⊎_elim}
use mathlib.Core.Bool.{Bool, true, false, ◌&&◌, ◌||◌, not, cond, true≢false}
use Prim.Native.Nat.{ℕ, ◌+◌, ◌*◌, ◌/◌, ◌%◌, ◌<◌}
use native.Mathlib.Decide.{dec_lt}
use native.Mathlib.Omega.{arith}
use lib.Dec.{ltb, eqb}
use lib.ListN.{length, get_or}
use borrow.Author.Tests.{ltb-true, lt-ltb, eqb-true, ne_eqb, not-true}
use Rattle.lists.specs.Lists.{all_below}
use Rattle.lists.proofs.Below.{all_at, all_yes}
use Rattle.lists.proofs.Every.{both, and_yes, or_cases}
use Rattle.geometry.specs.Words.{Point, point, word, block_words, corners}
use Rattle.geometry.specs.Obstruction.{corner_at, Hidden}
use Rattle.geometry.proofs.Corners.{corner_is}
use Rattle.seams.specs.Seam.{Belongs, BelongsAt, Shared, Disjoint}
use Rattle.seams.proofs.Seams.{disjoint_unshared}
use Rattle.tables.specs.Tables.{Tables, records, is_corner, is_end, present, place_of}
use Rattle.tables.specs.Written.{block_record}
use Rattle.tables.proofs.Marks.{corner_place as placed-corner}
use Rattle.tables.proofs.Splices.{block_word, block_first, corners_record}
use Rattle.visibility.specs.Visibility.{both_present, Unhidden, Clear, InSeam, PairIs, clear, seam, hidden}
use Rattle.search.proofs.Network.{corner_below}
use Rattle.book.specs.Book.{Book}
use Rattle.book.specs.Drawing.{Drawn}
use Rattle.book.proofs.Bare.{run_there, first_place, second_place}
use Rattle.trials.proofs.Sight.{obstructed, seen_hidden, seen_clear}
use Rattle.trials.proofs.Seams.{parted, parted_none, covered, covered_is, some_below, some_is}

-- the corners of block n
abbrev block_at : Book → ℕ → List Point
block_at b n = get_or b.blocks n []

-- block n hides the straight; no block does
unfoldable pub hidden_by : Book → Point → Point → ℕ → Bool
unfolding obstructed
hidden_by b p q n = ltb 0 (length (block_at b n)) && obstructed (block_at b n) p q

unfoldable pub seen : Book → Point → Point → Bool
unfolding hidden_by all_below
seen b p q = all_below 24 (λ n. not (hidden_by b p q n))

-- no two blocks touch, by their rectangles
unfoldable pub scattered : Book → Bool
unfolding parted all_below
scattered b = all_below 24 (λ n. all_below n (λ k. parted (block_at b k) (block_at b n)))

-- block n covers the place t / 2 of the way; two blocks cover an end of it, or its middle
unfoldable touched_by : Book → Point → Point → ℕ → ℕ → Bool
unfolding covered
touched_by b p q t n = ltb 0 (length (block_at b n)) && covered (block_at b n) p q 2 t

abbrev touched_twice : Book → Point → Point → ℕ → ℕ → Bool
touched_twice b p q t n = touched_by b p q t n && some_below n (λ k. touched_by b p q t k)

unfoldable pub between : Book → Point → Point → Bool
unfolding touched_by some_below
between b p q = some_below 3 (λ t. some_below 24 (λ n. touched_twice b p q t n))

-- the byte of the straight: the lowest number of a block that hides it; if none does, 253 between two blocks, and 254 where no two touch
unfoldable pub byte_is : Book → Point → Point → ℕ → Bool
unfolding hidden_by seen scattered between all_below
byte_is b p q x =
    cond (eqb x 254) (scattered b && seen b p q)
    (cond (eqb x 253) (between b p q && seen b p q) (ltb x 24 && hidden_by b p q x && all_below x (λ n. not (hidden_by b p q n))))

-- mark u is a corner; every corner passes the test
unfoldable pub corner_mark : Book → ℕ → Bool
corner_mark b u = ltb u 192 && ltb (u % 8) (length (block_at b (u / 8)))

unfoldable pub each_corner : Book → (ℕ → Bool) → Bool
unfolding all_below
each_corner b test = all_below 24 (λ n. all_below (length (block_at b n)) (λ k. test (8 * n + k)))

-- the place of a mark, where run 0 goes from p to q
unfoldable pub mark_at : Book → Point → Point → ℕ → Point
mark_at b p q u = cond (eqb u 192) p (cond (eqb u 193) q (corner_at (block_at b (u / 8)) (u % 8)))

module _ (b : Book) (T : Tables) (d : Drawn b T) where
  count_is : (n : ℕ) → n < 24 → word T.blocks (17 * n) ≡ length (block_at b n)
  unfolding block_record
  count_is n l = sym (block_first T.blocks n) ∙ ap (λ (ws : List ℕ). word ws 0) (d.blocks n l)

  corners_are : (n : ℕ) → n < 24 → corners (block_words T.blocks n) ≡ block_at b n
  corners_are n l = rw (d.blocks n l) (corners_record (block_at b n))

  hidden_yes : (p q : Point) (n : ℕ) → n < 24 → hidden_by b p q n ≡ true → Hidden T.blocks n p q
  unfolding hidden_by
  hidden_yes p q n l h =
      let e = both (ltb 0 (length (block_at b n))) _ h in
      record {
        stands = rw (block_first T.blocks n, count_is n l) (ltb-true _ _ e.0);
        across = rw (corners_are n l) (seen_hidden (block_at b n) p q e.1);
      }

  hidden_no : (p q : Point) (n : ℕ) → n < 24 → hidden_by b p q n ≡ false → Hidden T.blocks n p q → ⊥
  unfolding hidden_by
  hidden_no p q n l h o =
      let s : ltb 0 (length (block_at b n)) ≡ true = lt-ltb 0 _ (rw (block_first T.blocks n, count_is n l) at o.stands) in
      seen_clear (block_at b n) p q (rw s at h) (rw (corners_are n l) at o.across)

  unhidden : (p q : Point) → seen b p q ≡ true → Unhidden T.blocks p q
  unfolding seen
  unhidden p q h n l = hidden_no p q n l (not-true _ (all_at (λ k. not (hidden_by b p q k)) 24 n h l))

  standing : (n : ℕ) → n < 24 → 0 < word (block_words T.blocks n) 0 → 0 < length (block_at b n)
  standing n l h = rw (block_first T.blocks n, count_is n l) at h

  disjoint : scattered b ≡ true → Disjoint T.blocks
  unfolding scattered
  disjoint h n e d w x y f g =
      elim (dec_lt x y) [
        | yes l ↦ absurd (none x y l f g)
        | no l ↦ elim (dec_lt y x) [ yes m ↦ absurd (none y x m g f) | no m ↦ omega arith ]
      ]
    where
      none : (x y : ℕ) → x < y → Belongs T.blocks x n e d → Belongs T.blocks y n e d → ⊥
      none x y l f g =
          parted_none (block_at b x) (block_at b y) (all_at _ y x (all_at (λ n. all_below n (λ k. parted (block_at b k) (block_at b n))) 24 y h g.number) l)
          (standing x f.number f.stands) (standing y g.number g.stands) n e d w
          (rw (corners_are x f.number) at f.covers) (rw (corners_are y g.number) at g.covers)

  pub seen_yes : scattered b ≡ true → (p q : Point) → seen b p q ≡ true → Clear T.blocks p q
  seen_yes s p q h = record { seen = unhidden p q h; unshared = disjoint_unshared T.blocks p q (disjoint s) }

  touched : (p q : Point) (t n : ℕ) → n < 24 → touched_by b p q t n ≡ true → BelongsAt T.blocks n p q 2 t
  unfolding touched_by
  touched p q t n l h =
      let e = both (ltb 0 (length (block_at b n))) _ h in
      record {
        number = l;
        stands = rw (block_first T.blocks n, count_is n l) (ltb-true _ _ e.0);
        covers = rw (corners_are n l) (covered_is (block_at b n) p q 2 t e.1);
      }

  shared : (p q : Point) → between b p q ≡ true → Shared T.blocks p q
  unfolding between
  shared p q h =
      let t = some_is 3 (λ t. some_below 24 (λ n. touched_twice b p q t n)) h in
      let n = some_is 24 (λ n. touched_twice b p q t.0 n) t.2 in
      let e = both (touched_by b p q t.0 n.0) _ n.2 in
      let k = some_is n.0 (λ k. touched_by b p q t.0 k) e.1 in
      let d : (k.0 ≡ n.0 → ⊥) = (λ (x : k.0 ≡ n.0). omega (arith, k.1)) in
      record {
        n = 2;
        t = t.0;
        p = k.0;
        q = n.0;
        whole = omega arith;
        within = omega (arith, t.1);
        different = d;
        first = touched p q t.0 k.0 (omega (arith, k.1, n.1)) k.2;
        second = touched p q t.0 n.0 n.1 e.0;
      }

  pub seen_of : (p q : Point) → Clear T.blocks p q → seen b p q ≡ true
  unfolding seen
  seen_of p q c = all_yes (λ k. not (hidden_by b p q k)) 24 (λ n l. go n l (hidden_by b p q n) refl)
    where
      go : (n : ℕ) → n < 24 → (t : Bool) → hidden_by b p q n ≡ t → not (hidden_by b p q n) ≡ true
      go n l true e = absurd (c.seen n l (hidden_yes p q n l e))
      go n l false e = ap not e

  in_seam : (p q : Point) → between b p q ≡ true → seen b p q ≡ true → InSeam T.blocks p q
  in_seam p q h s = record { seen = unhidden p q s; shared = shared p q h }

  -- a place that a block hides, or that two cover
  pub shut_place : (p : Point) → not (seen b p p) || between b p p ≡ true → Clear T.blocks p p → ⊥
  shut_place p h c =
      ⊎_elim (λ e. true≢false (sym (seen_of p p c) ∙ not-true _ e)) (λ e. c.unshared (shared p p e)) (or_cases (not (seen b p p)) _ h)

  corner_there : (u : ℕ) → u < 192 → is_corner T.blocks u ≡ ltb (u % 8) (length (block_at b (u / 8)))
  unfolding is_corner
  corner_there u l = rw (lt-ltb u 192 l, count_is (u / 8) (omega arith))

  pub corner_of : (u : ℕ) → corner_mark b u ≡ true → is_corner T.blocks u ≡ true
  unfolding corner_mark
  corner_of u h = let e = both (ltb u 192) _ h in corner_there u (ltb-true _ _ e.0) ∙ e.1

  corner_low : (u : ℕ) → is_corner T.blocks u ≡ true → u % 8 < length (block_at b (u / 8))
  corner_low u h = ltb-true _ _ (sym (corner_there u (corner_below T.blocks u h)) ∙ h)

  pub at_corner : (test : ℕ → Bool) → each_corner b test ≡ true → (u : ℕ) → is_corner T.blocks u ≡ true → test u ≡ true
  unfolding each_corner
  at_corner test h u i =
      let low = corner_below T.blocks u i in
      let e : 8 * (u / 8) + u % 8 ≡ u = omega arith in
      ap test (sym e)
      ∙ all_at (λ k. test (8 * (u / 8) + k)) (length (block_at b (u / 8))) (u % 8)
      (all_at (λ n. all_below (length (block_at b n)) (λ k. test (8 * n + k))) 24 (u / 8) h (omega arith)) (corner_low u i)

  corner_place : (u : ℕ) → is_corner T.blocks u ≡ true → place_of (records T) u ≡ corner_at (block_at b (u / 8)) (u % 8)
  corner_place u i =
      let low = corner_below T.blocks u i in
      let t = T.blocks in
      let n = u / 8 in
      let k = u % 8 in
      let r : k < word (block_words t n) 0 = rw (block_first t n, count_is n (omega arith)) (corner_low u i) in
      let e : word t (17 * n + 1 + 2 * k) ≡ word (block_words t n) (2 * k + 1) = ap (word t) (omega arith) ∙ sym (block_word t n (2 * k + 1) (omega arith)) in
      let f : word t (17 * n + 1 + 2 * k + 1) ≡ word (block_words t n) (2 * k + 2) = ap (word t) (omega arith) ∙ sym (block_word t n (2 * k + 2) (omega arith)) in
      sym (placed-corner t T.runs u low) ∙ (λ j. point (e j) (f j)) ∙ sym (corner_is (block_words t n) k r) ∙ ap (λ (ps : List Point). corner_at ps k) (corners_are n (omega arith))

  -- run 0 goes from p to q
  module _ (p q : Point) (run : get_or b.runs 0 [] ≡ p ∷ q ∷ []) where
    -- the marks of the yard that a route of run 0 may touch
    pub data Mark : ℕ → Type 0 where
      start : Mark 192
      finish : Mark 193
      corner : {u : ℕ} → is_corner T.blocks u ≡ true → Mark u

    pub place_is : {u : ℕ} → Mark u → place_of (records T) u ≡ mark_at b p q u
    unfolding mark_at
    place_is start = first_place b T d p q run
    place_is finish = second_place b T d p q run
    place_is (corner {u} i) =
        let low = corner_below T.blocks u i in
        rw (ne_eqb u 192 (λ e. omega arith), ne_eqb u 193 (λ e. omega arith)) (corner_place u i)

    pub present_is : {u : ℕ} → Mark u → present (records T) u ≡ true
    unfolding present is_corner is_end
    present_is start = rw (run_there b T d p q run)
    present_is finish = rw (run_there b T d p q run)
    present_is (corner i) = rw i

    pub byte_is_lem : (x : ℕ) → byte_is b p q x ≡ true → PairIs (records T) 192 193 x
    unfolding byte_is
    byte_is_lem x h = go (eqb x 254) refl h
      where
        there : both_present (records T) 192 193 ≡ true
        there = and_yes (present (records T) 192) _ (present_is start) (present_is finish)

        hides : ltb x 24 && hidden_by b p q x && all_below x (λ n. not (hidden_by b p q n)) ≡ true → PairIs (records T) 192 193 x
        hides s =
            let c = both (ltb x 24 && hidden_by b p q x) _ s in
            let a = both (ltb x 24) _ c.0 in
            let l : x < 24 = ltb-true _ _ a.0 in
            hidden there l (rw (first_place b T d p q run, second_place b T d p q run) (hidden_yes p q x l a.1))
            (λ n m o. hidden_no p q n (omega arith) (not-true _ (all_at (λ k. not (hidden_by b p q k)) x n c.1 m)) (rw (first_place b T d p q run, second_place b T d p q run) at o))

        unseen : (t : Bool) → eqb x 253 ≡ t → cond t (between b p q && seen b p q) (ltb x 24 && hidden_by b p q x && all_below x (λ n. not (hidden_by b p q n))) ≡ true → PairIs (records T) 192 193 x
        unseen true e s =
            let c = both (between b p q) _ s in
            seam there (rw (first_place b T d p q run, second_place b T d p q run) (in_seam p q c.0 c.1)) (eqb-true x 253 e)
        unseen false e s = hides s

        go : (t : Bool) → eqb x 254 ≡ t
            → cond t (scattered b && seen b p q) (cond (eqb x 253) (between b p q && seen b p q) (ltb x 24 && hidden_by b p q x && all_below x (λ n. not (hidden_by b p q n)))) ≡ true
            → PairIs (records T) 192 193 x
        go true e s =
            let c = both (scattered b) _ s in
            clear there (rw (first_place b T d p q run, second_place b T d p q run) (seen_yes c.0 p q c.1)) (eqb-true x 254 e)
        go false e s = unseen (eqb x 253) refl s
