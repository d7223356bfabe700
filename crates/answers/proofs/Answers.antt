-- The number that each way through an edit's questions ends in.
use mathlib.Core.Path.{◌≡◌, refl, sym, ap, ◌∙◌}
use mathlib.Core.List.{List, [], ◌∷◌}
use mathlib.Core.Bool.{Bool, true, false, ◌&&◌, not}
use Prim.Native.Nat.{ℕ, ◌+◌, ◌*◌, ◌-◌, ◌/◌, ◌<◌, ◌≤◌}
use native.Mathlib.Omega.{arith}
use lib.Dec.{eqb}
use lib.IntN.{ℤ}
use lib.ListN.{length, take, drop}
use mir.Syntax.{w16}
use mir.Val.{SFits, to_z, of_z}
use mir.ValLaws.{to_z-of_z}
use borrow.Author.Tests.{lt-ltb, le-ltb, ltb-true, eq-eqb, ne_eqb, not-true, not-false}
use Rattle.refusals.specs.declared.Refusal.{Refusal}
use Rattle.std.specs.Prelude.{Result, Ok, Err, IsErr, IsErrAnd}
use Rattle.refusals.specs.Numbers.{number_of as question, answer_of}
use Rattle.refusals.proofs.Numbers.{number_of_some}
use Rattle.lists.specs.Lists.{all}
use Rattle.geometry.specs.Words.{Point, word, block_words, corners}
use Rattle.geometry.specs.Convexity.{convex}
use Rattle.geometry.specs.inner.Bounds.{BoundedRecord}
use Rattle.geometry.proofs.Searching.{part_is}
use Rattle.tables.specs.Tables.{Tables, tables, stored, records}
use Rattle.tables.specs.Written.{block_record}
use Rattle.tables.proofs.Splices.{corners_record, places_length}
use Rattle.records.specs.Questions.{count_right, coordinate_right, place_right, shift_right, lent_places, figure_right, records_right}
use Rattle.records.proofs.Fits.{record_bounded}
use Rattle.records.proofs.Filled.{count_facts}
use Rattle.records.proofs.Places.{places_right_lem, corners_bounded}
use Rattle.book.specs.Questions.{Question, ask, first_no, lengths_right, number_right}
use Rattle.book.specs.Book.{Edit, add_block, remove_block, move_block, add_run, remove_run, move_run, set_charge, Book, free, questions}
use Rattle.book.specs.inner.Named.{number_of, named}
use Rattle.book.specs.Edits.{book_of, fitness, answer_over}
use Rattle.book.proofs.Questions.{sized_of, lengths_yes, lengths_no, first_yes, first_more, Fitting, fitting}
use Rattle.book.proofs.Stored.{book_block, block_free, run_free}

pub no_of : (t b : Bool) → t ≡ b → not t ≡ true → b ≡ false
no_of t b e n = sym e ∙ not-true t n

pub yes_of : (t b : Bool) → t ≡ b → not t ≡ false → b ≡ true
yes_of t b e n = sym e ∙ not-false t n

-- what `?` hands on is the same refusal
pub passed : {A : Type 0} (r : Result A Refusal) (e : Refusal) (v : ℕ) → IsErr r × IsErrAnd r (λ x. x ≡ e) → question e ≡ v → answer_of r ≡ v
passed (Ok x) e v h f = absurd h.1
passed (Err x) e v h f = ap question h.1 ∙ f

-- no refusal has the number 0
pub some : (e : Refusal) → question e ≡ 0 → ⊥
some e z = omega (arith, number_of_some e)

pub not_none : {A : Type 0} (r : Result A Refusal) (e : Refusal) → IsErr r × IsErrAnd r (λ x. x ≡ e) → answer_of r ≡ 0 → ⊥
not_none r e h z = some e (sym (passed r e _ h refl) ∙ z)

-- ---- question 1
module _ (b r p s t : List ℕ) where
  pub routes_off : (length s ≡ 4728 → ⊥) → false ≡ lengths_right (tables b r p s t)
  routes_off h = sym (lengths_no (tables b r p s t) (λ z. h z.routes))

  pub totals_asked : length b ≡ 408 → length r ≡ 121 → length p ≡ 28680 → length s ≡ 4728 → eqb (length t) 25 ≡ lengths_right (tables b r p s t)
  unfolding lengths_right
  totals_asked eb er ep es = rw (eq-eqb _ _ eb, eq-eqb _ _ er, eq-eqb _ _ ep, eq-eqb _ _ es)

  module _ (u : Bool) (e : u ≡ lengths_right (tables b r p s t)) (y : not u ≡ false) where
    pub blocks_sized : length b ≡ 408
    blocks_sized = (sized_of (tables b r p s t) (yes_of u _ e y)).blocks

    pub runs_sized : length r ≡ 121
    runs_sized = (sized_of (tables b r p s t) (yes_of u _ e y)).runs

-- ---- questions 1 and 2
module _ (T : Tables) (t : Bool) (a : t ≡ lengths_right T) where
  pub fitness_one : not t ≡ true → 1 ≡ fitness T
  unfolding first_no
  fitness_one n = rw (no_of t _ a n)

  module _ (y : not t ≡ false) (u : Bool) (b : u ≡ records_right (records T)) where
    pub fitness_two : not u ≡ true → 2 ≡ fitness T
    unfolding first_no
    fitness_two n = rw (yes_of t _ a y, no_of u _ b n)

    pub fitness_none : not u ≡ false → 0 ≡ fitness T
    unfolding first_no
    fitness_none n = rw (yes_of t _ a y, yes_of u _ b n)

-- ---- questions 1 to 3
module _ (T : Tables) (n : ℕ) where
  pub named_unfit : (e : Refusal) → question e ≡ fitness T → question e ≡ named T n
  named_unfit e f = f ∙ first_more (ask 1 (lengths_right T) ∷ ask 2 (records_right (records T)) ∷ []) (ask 3 (number_right n) ∷ []) (λ z. some e (f ∙ z))

  module _ (f : 0 ≡ fitness T) where
    fit_named : named T n ≡ first_no (ask 3 (number_right n) ∷ [])
    unfolding first_no
    fit_named = let g = fitting T (sym f) in rw (lengths_yes T g.sized, g.right)

    pub named_high : 24 ≤ n → 3 ≡ named T n
    unfolding first_no
    named_high h = rw (fit_named, le-ltb n 24 h)

    pub named_none : n < 24 → 0 ≡ named T n
    unfolding first_no
    named_none h = rw (fit_named, lt-ltb n 24 h)

-- every edit asks question 3 first, of the number that it names; that of the figure names 0, and to ask it of that changes nothing
asks_number : (b : Book) (e : Edit) → (qs : List Question) × (first_no (questions b e) ≡ first_no (ask 3 (number_right (number_of e)) ∷ qs))
unfolding questions first_no
asks_number b (add_block n ws) = (drop 1 (questions b (add_block n ws)), refl)
asks_number b (remove_block n) = (drop 1 (questions b (remove_block n)), refl)
asks_number b (move_block n de dn) = (drop 1 (questions b (move_block n de dn)), refl)
asks_number b (add_run m p q) = (drop 1 (questions b (add_run m p q)), refl)
asks_number b (remove_run m) = (drop 1 (questions b (remove_run m)), refl)
asks_number b (move_run m p q) = (drop 1 (questions b (move_run m p q)), refl)
asks_number b (set_charge f) = (questions b (set_charge f), refl)

pub unnamed : (T : Tables) (d : Edit) (e : Refusal) → question e ≡ named T (number_of d) → question e ≡ answer_over T d
unfolding answer_over first_no
unnamed T d e f =
    let q = asks_number (book_of (records T)) d in
    rw q.1 (f ∙ first_more (ask 1 (lengths_right T) ∷ ask 2 (records_right (records T)) ∷ ask 3 (number_right (number_of d)) ∷ []) q.0 (λ z. some e (f ∙ z)))

-- the figure
module _ (T : Tables) (g : ℕ) where
  pub charge_unfit : (e : Refusal) → question e ≡ fitness T → question e ≡ answer_over T (set_charge g)
  unfolding answer_over
  charge_unfit e f = f ∙ first_more (ask 1 (lengths_right T) ∷ ask 2 (records_right (records T)) ∷ []) (questions (book_of (records T)) (set_charge g)) (λ z. some e (f ∙ z))

  module _ (f : 0 ≡ fitness T) (t : Bool) (a : t ≡ figure_right g) where
    asked : answer_over T (set_charge g) ≡ first_no (questions (book_of (records T)) (set_charge g))
    unfolding answer_over first_no
    asked = let k = fitting T (sym f) in rw (lengths_yes T k.sized, k.right)

    pub charge_13 : not t ≡ true → 13 ≡ answer_over T (set_charge g)
    unfolding questions first_no
    charge_13 n = rw (asked, no_of t _ a n)

    pub charge_0 : not t ≡ false → 0 ≡ answer_over T (set_charge g)
    unfolding questions first_no
    charge_0 n = rw (asked, yes_of t _ a n)

-- ---- the edits' own questions
module _ (T : Tables) (n : ℕ) (f : 0 ≡ named T n) where
  pub named_fitting : Fitting T
  named_fitting =
      let a = first_yes 0 (lengths_right T) _ (sym f) in
      record { sized = sized_of T a.0; right = (first_yes 1 (records_right (records T)) _ a.1).0 }

  below : number_right n ≡ true
  below = (first_yes 2 (number_right n) _ (first_yes 1 _ _ (first_yes 0 _ _ (sym f)).1).1).0

  pub number_below : n < 24
  number_below = ltb-true n 24 below

  own : (e : Edit) → answer_over T e ≡ first_no (questions (book_of (records T)) e)
  unfolding answer_over first_no
  own e = rw (lengths_yes T named_fitting.sized, named_fitting.right)

  -- of a block that is there, and of one that is not
  module _ (w : word T.blocks (17 * n) ≡ 0 → ⊥) where
    taken : free (book_of (records T)).blocks n ≡ false
    taken = block_free (records T) n number_below ∙ ne_eqb _ _ w

    pub add_block_4 : (ws : List ℕ) → 4 ≡ answer_over T (add_block n ws)
    unfolding questions first_no
    add_block_4 ws = rw (own (add_block n ws), below, taken)

    pub remove_block_0 : 0 ≡ answer_over T (remove_block n)
    unfolding questions first_no
    remove_block_0 = rw (own (remove_block n), below, taken)

    module _ (e k : ℤ) (t : Bool) (a : t ≡ all (shift_right e k) (corners (block_words T.blocks n))) where
      pub move_block_7 : not t ≡ true → 7 ≡ answer_over T (move_block n e k)
      unfolding questions first_no
      move_block_7 b = rw (own (move_block n e k), below, taken, book_block (records T) n number_below, no_of _ _ a b)

      pub move_block_0 : not t ≡ false → 0 ≡ answer_over T (move_block n e k)
      unfolding questions first_no
      move_block_0 b = rw (own (move_block n e k), below, taken, book_block (records T) n number_below, yes_of _ _ a b)

  module _ (w : word T.blocks (17 * n) ≡ 0) where
    empty : free (book_of (records T)).blocks n ≡ true
    empty = block_free (records T) n number_below ∙ eq-eqb _ _ w

    pub remove_block_5 : 5 ≡ answer_over T (remove_block n)
    unfolding questions first_no
    remove_block_5 = rw (own (remove_block n), below, empty)

    pub move_block_5 : (e k : ℤ) → 5 ≡ answer_over T (move_block n e k)
    unfolding questions first_no
    move_block_5 e k = rw (own (move_block n e k), below, empty)

    module _ (ws : List ℕ) (t₆ : Bool) (a₆ : t₆ ≡ count_right ws) where
      pub add_block_6 : not t₆ ≡ true → 6 ≡ answer_over T (add_block n ws)
      unfolding questions first_no
      add_block_6 b = rw (own (add_block n ws), below, empty, no_of _ _ a₆ b)

      module _ (b₆ : not t₆ ≡ false) (t₇ : Bool) (a₇ : t₇ ≡ all coordinate_right ws) where
        pub add_block_7 : not t₇ ≡ true → 7 ≡ answer_over T (add_block n ws)
        unfolding questions first_no
        add_block_7 b = rw (own (add_block n ws), below, empty, yes_of _ _ a₆ b₆, no_of _ _ a₇ b)

        module _ (b₇ : not t₇ ≡ false) (t₈ : Bool) (a₈ : t₈ ≡ convex (lent_places ws)) where
          pub add_block_8 : not t₈ ≡ true → 8 ≡ answer_over T (add_block n ws)
          unfolding questions first_no
          add_block_8 b = rw (own (add_block n ws), below, empty, yes_of _ _ a₆ b₆, yes_of _ _ a₇ b₇, no_of _ _ a₈ b)

          pub add_block_0 : not t₈ ≡ false → 0 ≡ answer_over T (add_block n ws)
          unfolding questions first_no
          add_block_0 b = rw (own (add_block n ws), below, empty, yes_of _ _ a₆ b₆, yes_of _ _ a₇ b₇, yes_of _ _ a₈ b)

  -- of a run that is there, and of one that is not
  module _ (w : word T.runs (5 * n) ≡ 0 → ⊥) where
    used : free (book_of (records T)).runs n ≡ false
    used = run_free (records T) n number_below ∙ ne_eqb _ _ w

    pub add_run_4 : (p q : Point) → 4 ≡ answer_over T (add_run n p q)
    unfolding questions first_no
    add_run_4 p q = rw (own (add_run n p q), below, used)

    pub remove_run_0 : 0 ≡ answer_over T (remove_run n)
    unfolding questions first_no
    remove_run_0 = rw (own (remove_run n), below, used)

    module _ (p q : Point) (t : Bool) (a : t ≡ place_right p && place_right q) where
      pub move_run_7 : not t ≡ true → 7 ≡ answer_over T (move_run n p q)
      unfolding questions first_no
      move_run_7 b = rw (own (move_run n p q), below, used, no_of _ _ a b)

      pub move_run_0 : not t ≡ false → 0 ≡ answer_over T (move_run n p q)
      unfolding questions first_no
      move_run_0 b = rw (own (move_run n p q), below, used, yes_of _ _ a b)

  module _ (w : word T.runs (5 * n) ≡ 0) where
    unused_place : free (book_of (records T)).runs n ≡ true
    unused_place = run_free (records T) n number_below ∙ eq-eqb _ _ w

    pub remove_run_5 : 5 ≡ answer_over T (remove_run n)
    unfolding questions first_no
    remove_run_5 = rw (own (remove_run n), below, unused_place)

    pub move_run_5 : (p q : Point) → 5 ≡ answer_over T (move_run n p q)
    unfolding questions first_no
    move_run_5 p q = rw (own (move_run n p q), below, unused_place)

    module _ (p q : Point) (t : Bool) (a : t ≡ place_right p && place_right q) where
      pub add_run_7 : not t ≡ true → 7 ≡ answer_over T (add_run n p q)
      unfolding questions first_no
      add_run_7 b = rw (own (add_run n p q), below, unused_place, no_of _ _ a b)

      pub add_run_0 : not t ≡ false → 0 ≡ answer_over T (add_run n p q)
      unfolding questions first_no
      add_run_0 b = rw (own (add_run n p q), below, unused_place, yes_of _ _ a b)

-- what a call may read once the tables are fit
module _ (b r p s t : List ℕ) (n : ℕ) (f : 0 ≡ named (tables b r p s t) n) where
  facts : Fitting (tables b r p s t)
  facts = named_fitting (tables b r p s t) n f

  h : n < 24
  h = number_below (tables b r p s t) n f

  pub in_blocks : 17 * n < length b
  in_blocks = omega (arith, h, facts.sized.blocks)

  pub in_runs : 5 * n < length r
  in_runs = omega (arith, h, facts.sized.runs)

  pub part_in_blocks : 17 * n + 17 ≤ length b
  part_in_blocks = omega (arith, h, facts.sized.blocks)

  pub part_bounded : BoundedRecord (take (17 * n + 17 - 17 * n) (drop (17 * n) b))
  part_bounded =
      let g = facts in
      rw (part_is b n) (record_bounded (stored b r) g.sized.blocks g.sized.runs g.right n h)

-- the tests of a part that is lent, and of a record that is made, are those of the block and of the corners
pub shifts_of : (t : Bool) (b : List ℕ) (n : ℕ) (de dn : ℤ) → SFits w16 de → SFits w16 dn
    → t ≡ all (shift_right (to_z w16 (of_z w16 de)) (to_z w16 (of_z w16 dn))) (corners (take (17 * n + 17 - 17 * n) (drop (17 * n) b)))
    → t ≡ all (shift_right de dn) (corners (block_words b n))
shifts_of t b n de dn fe fn e = rw (part_is b n, to_z-of_z w16 de fe, to_z-of_z w16 dn fn) at e

pub convex_of : (t : Bool) (ws : List ℕ) (ps : List Point) → t ≡ convex (corners ws) → ws ≡ block_record ps → t ≡ convex ps
convex_of t ws ps e f = e ∙ ap (λ (l : List ℕ). convex (corners l)) f ∙ ap convex (corners_record ps)

-- the record of a new block, before its convexity is known
pub new_bounded : (ws rec : List ℕ) (t u : Bool) → t ≡ count_right ws → not t ≡ false → u ≡ all coordinate_right ws → not u ≡ false → rec ≡ block_record (lent_places ws) → BoundedRecord rec
new_bounded ws rec t u a b c d e =
    let k = count_facts ws (yes_of t _ a b) in
    rw e (corners_bounded (lent_places ws) (omega (arith, k.high, places_length ws 0 (length ws / 2))) (places_right_lem ws 0 (length ws / 2) (yes_of u _ c d)))
