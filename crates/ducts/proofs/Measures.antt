-- A run of a yard of at most eight blocks has at most 66 lines each way, and its ends are crossings.
use mathlib.Core.Path.{◌≡◌, refl, sym, ap, ◌∙◌}
use mathlib.Core.Bool.{Bool, true, false, ◌&&◌}
use mathlib.Core.List.{List, [], ◌∷◌}
use Prim.Native.Nat.{ℕ, zero, suc, ◌+◌, ◌*◌, ◌/◌, ◌%◌, ◌≤◌, ◌<◌}
use native.Mathlib.Omega.{arith}
use native.Mathlib.Decide.{ℕ_discrete, dec_lt}
use lib.Dec.{ltb}
use lib.ListN.{length, take, length-take}
use lib.Seq.{get_or-take}
use borrow.Author.Tests.{lt-ltb, le-ltb}
use Rattle.paths.proofs.Short.{Has, here, there}
use Rattle.geometry.specs.Words.{Point, word}
use Rattle.geometry.specs.inner.Bounds.{InRange}
use Rattle.tables.specs.Tables.{Records, is_corner, place_of, first_end, second_end}
use Rattle.tables.specs.inner.Fit.{Fit}
use Rattle.tables.proofs.Marks.{place_in_range}
use Rattle.crossings.specs.Grid.{Grid, grid, Crossing, crossing_at}
use Rattle.lines.specs.Lines.{insert, coordinate, corner_lines, lines, index_of}
use Rattle.ducts.specs.Quote.{grid_of, duct_start, duct_end, QuoteIs, DuctIs, standing}
use Rattle.lines.specs.inner.Lined.{Rising, Collected}
use Rattle.crossings.specs.inner.Charts.{ruled, Ruled}
use Rattle.lines.proofs.Lists.{Placed, put_last, put_before, put_same, put_after, placed, rising_insert, index_here, index_past}
use Rattle.lines.proofs.Collecting.{corners_rising}

placed_length : {x : ℕ} {l k : List ℕ} → Placed x l k → length k ≤ 1 + length l
placed_length put_last = omega arith
placed_length (put_before l) = omega arith
placed_length (put_same e) = omega arith
placed_length (put_after l p) = omega (arith, placed_length p)

insert_length : (x : ℕ) (l : List ℕ) → length (insert x l) ≤ 1 + length l
insert_length x l = placed_length (placed x l)

two_more : (x y : ℕ) (l : List ℕ) → length (insert y (insert x l)) ≤ 2 + length l
two_more x y l = omega (arith, insert_length x l, insert_length y (insert x l))

few_of : (c b s : ℕ) → c ≤ 2 + b → b ≤ 8 * s → s ≤ 8 → c ≤ 66
few_of c b s p q r = omega arith

cross_of : (i j nx ny : ℕ) → i < nx → j < ny → ny ≤ 66 → ((66 * i + j) / 66 < nx) × ((66 * i + j) % 66 < ny)
cross_of i j nx ny a b c = (omega arith, omega arith)

-- numbers of at most b
data Most (b : ℕ) : List ℕ → Type 0 where
  no_more : Most b []
  one_more : {x : ℕ} {xs : List ℕ} → x ≤ b → Most b xs → Most b (x ∷ xs)

most_placed : {b x : ℕ} {l k : List ℕ} → x ≤ b → Most b l → Placed x l k → Most b k
most_placed h m put_last = one_more h no_more
most_placed h m (put_before l) = one_more h m
most_placed h m (put_same e) = m
most_placed h (one_more k m) (put_after l p) = one_more k (most_placed h m p)

most_insert : {b : ℕ} (x : ℕ) {l : List ℕ} → x ≤ b → Most b l → Most b (insert x l)
most_insert x {l} h m = most_placed h m (placed x l)

most_word : {b : ℕ} {l : List ℕ} → Most b l → (i : ℕ) → i < length l → word l i ≤ b
most_word no_more i h = absurd (omega arith)
most_word (one_more k m) zero h = k
most_word (one_more k m) (suc i) h = most_word m i (omega arith)

has_placed : {x : ℕ} {l k : List ℕ} → Placed x l k → Has x k
has_placed put_last = here refl
has_placed (put_before l) = here refl
has_placed (put_same e) = here (sym e)
has_placed (put_after l p) = there (has_placed p)

has_kept : {x z : ℕ} {l k : List ℕ} → Has z l → Placed x l k → Has z k
has_kept h put_last = elim h [ ]
has_kept h (put_before l) = there h
has_kept h (put_same e) = h
has_kept (here q) (put_after l p) = here q
has_kept (there h) (put_after l p) = there (has_kept h p)

index_below : (x : ℕ) {l : List ℕ} → Has x l → index_of x l < length l
index_below x (here {u = y} {us = ys} q) = omega (arith, index_here x y ys q)
index_below x (there {u = y} {us = ys} h) = go (ℕ_discrete y x) (index_below x h)
  where
    go : Dec (y ≡ x) → index_of x ys < length ys → index_of x (y ∷ ys) < length (y ∷ ys)
    go (yes q) t = omega (arith, index_here x y ys q)
    go (no q) t = omega (arith, index_past x y ys q)

coordinate_small : (e : Bool) (p : Point) → InRange p → coordinate e p ≤ 32767
unfolding coordinate
coordinate_small true p n = n.east
coordinate_small false p n = n.north

-- the corners of one block
module _ (R : Records) (e : Bool) where
  corner_off : (n k : ℕ) → k < 8 → word R.blocks (17 * n) ≡ 0 → is_corner R.blocks (8 * n + k) ≡ false
  unfolding is_corner
  corner_off n k h z =
      let p : (8 * n + k) / 8 ≡ n = omega arith in
      let q : (8 * n + k) % 8 ≡ k = omega arith in
      rw (p, q, z, le-ltb k 0 (omega arith)) (and_no (ltb (8 * n + k) 192))
    where
      and_no : (b : Bool) → b && false ≡ false
      and_no true = refl
      and_no false = refl

  one_mark : (i : ℕ) → length (corner_lines R e (suc i)) ≤ 1 + length (corner_lines R e i)
  unfolding corner_lines
  one_mark i = go (is_corner R.blocks i) refl
    where
      go : (t : Bool) → is_corner R.blocks i ≡ t → length (corner_lines R e (suc i)) ≤ 1 + length (corner_lines R e i)
      go true q = rw q (insert_length (coordinate e (place_of R i)) (corner_lines R e i))
      go false q = rw q (omega arith)

  no_mark : (i : ℕ) → is_corner R.blocks i ≡ false → length (corner_lines R e (suc i)) ≡ length (corner_lines R e i)
  unfolding corner_lines
  no_mark i q = rw q

  with_marks : (n k : ℕ) → length (corner_lines R e (8 * n + k)) ≤ length (corner_lines R e (8 * n)) + k
  with_marks n zero = let q : 8 * n + 0 ≡ 8 * n = omega arith in rw q (omega arith)
  with_marks n (suc k) =
      let q : 8 * n + suc k ≡ suc (8 * n + k) = omega arith in
      rw q (omega (arith, one_mark (8 * n + k), with_marks n k))

  without_marks : (n k : ℕ) → k ≤ 8 → word R.blocks (17 * n) ≡ 0 → length (corner_lines R e (8 * n + k)) ≡ length (corner_lines R e (8 * n))
  without_marks n zero h z = let q : 8 * n + 0 ≡ 8 * n = omega arith in rw q
  without_marks n (suc k) h z =
      let q : 8 * n + suc k ≡ suc (8 * n + k) = omega arith in
      rw q (no_mark (8 * n + k) (corner_off n k (omega arith) z) ∙ without_marks n k (omega arith) z)

  block_lines : (n : ℕ) → length (corner_lines R e (8 * n)) ≤ 8 * standing R.blocks n
  unfolding corner_lines standing
  block_lines zero = omega arith
  block_lines (suc n) = go (dec_lt 0 (word R.blocks (17 * n))) (block_lines n)
    where
      q : 8 * suc n ≡ 8 * n + 8
      q = omega arith

      go : Dec (0 < word R.blocks (17 * n)) → length (corner_lines R e (8 * n)) ≤ 8 * standing R.blocks n → length (corner_lines R e (8 * suc n)) ≤ 8 * standing R.blocks (suc n)
      go (yes l) h = rw (q, lt-ltb 0 (word R.blocks (17 * n)) l) (omega (arith, with_marks n 8))
      go (no l) h = rw (q, le-ltb 0 (word R.blocks (17 * n)) (omega arith)) (omega (arith, without_marks n 8 (omega arith) (omega arith)))

  module _ (f : Fit R) where
    coordinate_near : (i : ℕ) → i < 240 → coordinate e (place_of R i) ≤ 32767
    coordinate_near i l = coordinate_small e (place_of R i) (place_in_range R i f l)

    corners_most : (i : ℕ) → i ≤ 192 → Most 32767 (corner_lines R e i)
    unfolding corner_lines
    corners_most zero h = no_more
    corners_most (suc i) h = go (is_corner R.blocks i) refl (corners_most i (omega arith))
      where
        go : (t : Bool) → is_corner R.blocks i ≡ t → Most 32767 (corner_lines R e i) → Most 32767 (corner_lines R e (suc i))
        go true q m = rw q (most_insert (coordinate e (place_of R i)) (coordinate_near i (omega arith)) m)
        go false q m = rw q m

    module _ (m : ℕ) (ml : m < 24) where
      lines_most : Most 32767 (lines R m e)
      unfolding lines
      lines_most =
          most_insert (coordinate e (place_of R (second_end m))) (coordinate_near (second_end m) (omega arith))
          (most_insert (coordinate e (place_of R (first_end m))) (coordinate_near (first_end m) (omega arith)) (corners_most 192 (omega arith)))

  corners_few : length (corner_lines R e 192) ≤ 8 * standing R.blocks 24
  corners_few = block_lines 24

  lines_few : (m : ℕ) → standing R.blocks 24 ≤ 8 → length (lines R m e) ≤ 66
  unfolding lines
  lines_few m h =
      few_of _ _ _ (two_more (coordinate e (place_of R (first_end m))) (coordinate e (place_of R (second_end m))) (corner_lines R e 192)) corners_few h

  lines_rising : (m : ℕ) → Rising 0 (lines R m e)
  unfolding lines
  lines_rising m =
      rising_insert (coordinate e (place_of R (second_end m))) (omega arith)
      (rising_insert (coordinate e (place_of R (first_end m))) (omega arith) (corners_rising R e 192))

  first_on : (m : ℕ) → index_of (coordinate e (place_of R (first_end m))) (lines R m e) < length (lines R m e)
  unfolding lines
  first_on m = index_below _ (has_kept (has_placed (placed _ (corner_lines R e 192))) (placed (coordinate e (place_of R (second_end m))) _))

  second_on : (m : ℕ) → index_of (coordinate e (place_of R (second_end m))) (lines R m e) < length (lines R m e)
  unfolding lines
  second_on m = index_below _ (has_placed (placed _ (insert (coordinate e (place_of R (first_end m))) (corner_lines R e 192))))

  module _ (m : ℕ) (list : List ℕ) (n : ℕ) (c : Collected (lines R m e) list n) where
    taken_length : length (take n list) ≡ n
    taken_length = simp length-take (omega (arith, c.count, c.sized))

    count_is : length (lines R m e) ≡ n
    count_is = ap length (sym c.is) ∙ taken_length

    pub count_few : standing R.blocks 24 ≤ 8 → n ≤ 66
    count_few h = omega (arith, count_is, lines_few m h)

    pub words_near : Fit R → m < 24 → (i : ℕ) → i < n → word list i ≤ 32767
    words_near f ml i l =
        let q : word (lines R m e) i ≡ word list i = ap (λ (k : List ℕ). word k i) (sym c.is) ∙ get_or-take n list i 0 l in
        omega (arith, most_word (lines_most f m ml) i (omega (arith, count_is)))

    pub words_rising : Rising 0 (take n list)
    words_rising = rw c.is (lines_rising m)

module _ (R : Records) (m : ℕ) (xs : List ℕ) (nx : ℕ) (ys : List ℕ) (ny : ℕ) (cx : Collected (lines R m true) xs nx) (cy : Collected (lines R m false) ys ny) where
  pub ruled_is : Fit R → m < 24 → standing R.blocks 24 ≤ 8 → Ruled xs nx ys ny
  ruled_is f ml h =
      record {
        xs_sized = cx.sized;
        ys_sized = cy.sized;
        xs_few = count_few R true m xs nx cx h;
        ys_few = count_few R false m ys ny cy h;
        xs_near = words_near R true m xs nx cx f ml;
        ys_near = words_near R false m ys ny cy f ml;
        xs_rising = words_rising R true m xs nx cx;
        ys_rising = words_rising R false m ys ny cy;
      }

  grid_is : ruled xs nx ys ny ≡ grid_of R m
  unfolding grid_of
  grid_is = λ i. grid (cx.is i) (cy.is i)

  -- the crossings of the two ends
  on_grid : standing R.blocks 24 ≤ 8 → (p : Point) → index_of p.east (lines R m true) < length (lines R m true)
      → index_of p.north (lines R m false) < length (lines R m false) → Crossing (grid_of R m) (crossing_at (grid_of R m) p)
  unfolding grid_of crossing_at
  on_grid h p a b = let c = cross_of _ _ _ _ a b (lines_few R false m h) in record { east = c.0; north = c.1 }

  module _ (p : Point) (r : ℕ) (q : r ≡ crossing_at (ruled xs nx ys ny) p) where
    at_mark : (i : ℕ) → p ≡ place_of R i → r ≡ crossing_at (grid_of R m) (place_of R i)
    at_mark i e = q ∙ ap (λ (g : Grid). crossing_at g p) grid_is ∙ ap (crossing_at (grid_of R m)) e

    pub start_on : standing R.blocks 24 ≤ 8 → p ≡ place_of R (first_end m) → Crossing (ruled xs nx ys ny) r
    unfolding coordinate
    start_on h e = rw (at_mark (first_end m) e, grid_is) (on_grid h (place_of R (first_end m)) (first_on R true m) (first_on R false m))

    pub end_on : standing R.blocks 24 ≤ 8 → p ≡ place_of R (second_end m) → Crossing (ruled xs nx ys ny) r
    unfolding coordinate
    end_on h e = rw (at_mark (second_end m) e, grid_is) (on_grid h (place_of R (second_end m)) (second_on R true m) (second_on R false m))

  pub duct_is : (p : Point) (s : ℕ) (q : Point) (t : ℕ) (quote list : List ℕ) → p ≡ place_of R (first_end m) → s ≡ crossing_at (ruled xs nx ys ny) p
      → q ≡ place_of R (second_end m) → t ≡ crossing_at (ruled xs nx ys ny) q → QuoteIs R.blocks (ruled xs nx ys ny) s t quote list → DuctIs R m quote list
  unfolding duct_start duct_end
  duct_is p s q t quote list a b c d k = rw (at_mark p s b (first_end m) a, at_mark q t d (second_end m) c, grid_is) at k
