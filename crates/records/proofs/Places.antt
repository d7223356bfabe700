-- The places that a block's or a run's record may hold: question 2 allows the record that holds them, and each record that it allows holds such places.
use mathlib.Core.Path.{◌≡◌, refl, sym, ap, ◌∙◌}
use mathlib.Core.Logic.{◌⊎◌, inl, inr}
use mathlib.Core.List.{List, [], ◌∷◌, ◌++◌}
use mathlib.Core.Bool.{Bool, true, ◌&&◌, ◌||◌, or-true}
use Prim.Native.Nat.{ℕ, zero, suc, ◌+◌, ◌*◌, ◌-◌, ◌/◌, ◌<◌, ◌≤◌}
use native.Mathlib.Omega.{arith}
use native.Mathlib.Decide.{dec_lt}
use lib.Dec.{leb, eqb}
use lib.ListN.{length, drop, replicate, get_or-eq_default}
use lib.Seq.{drop_at, ext_get_or}
use borrow.Author.Tests.{leb-true, le-leb}
use Rattle.lists.specs.Lists.{all, all_below}
use Rattle.lists.proofs.Every.{both, and_yes, every_read, every_append, every_replicate}
use Rattle.geometry.specs.Words.{Point, word, place_at, places_from, corners}
use Rattle.geometry.specs.Convexity.{convex}
use Rattle.geometry.specs.inner.Bounds.{BoundedRecord}
use Rattle.geometry.proofs.Corners.{corner_is}
use Rattle.tables.specs.Written.{place_words, block_record, run_record}
use Rattle.tables.specs.inner.Fit.{BoundedRun}
use Rattle.tables.proofs.Places.{record_ext}
use Rattle.tables.proofs.Splices.{places_length, place_words_length, block_record_length, corners_record, run_record_none, word_zeros}
use Rattle.records.specs.Questions.{count_right, coordinate_right, place_right, lent_places, zero_from, block_right, run_right}
use Rattle.records.proofs.Loops.{block_bounded, zero_word}
use Rattle.records.proofs.Filled.{count_facts}
use Rattle.records.proofs.Fits.{StandingRecord, block_cases, run_cases}

-- the corners of a standing block, and what a block's or a run's place may hold
pub record StandingCorners (ps : List Point) : Type 0 where
  pub low : 3 ≤ length ps
  pub high : length ps ≤ 8
  pub right : all place_right ps ≡ true
  pub turns : convex ps ≡ true

pub data BlockPlace : List Point → Type 0 where
  vacant : BlockPlace []
  standing : {ps : List Point} → StandingCorners ps → BlockPlace ps

pub data RunPlace : List Point → Type 0 where
  unused : RunPlace []
  two : {p q : Point} → place_right p && place_right q ≡ true → RunPlace (p ∷ q ∷ [])

pub block_small : (ps : List Point) → BlockPlace ps → length ps ≤ 8
block_small ps vacant = omega arith
block_small ps (standing f) = f.high

pub place_convex : (ps : List Point) → BlockPlace ps → convex ps ≡ true
unfolding convex all_below
place_convex ps vacant = refl
place_convex ps (standing s) = s.turns

pub run_full : (ps : List Point) → RunPlace ps → length (run_record ps) ≡ 5
unfolding run_record place_words
run_full ps unused = refl
run_full ps (two h) = refl

-- ---- the corners that are lent
pub places_right_lem : (t : List ℕ) (i c : ℕ) → all coordinate_right t ≡ true → all place_right (places_from t i c) ≡ true
unfolding places_from all
places_right_lem t i zero h = refl
places_right_lem t i (suc c) h =
    and_yes (place_right (place_at t i)) (all place_right (places_from t (i + 2) c))
    (and_yes (coordinate_right (word t i)) (coordinate_right (word t (i + 1))) (every_read coordinate_right t i 0 h refl) (every_read coordinate_right t (i + 1) 0 h refl))
    (places_right_lem t (i + 2) c h)

pub new_standing : (ws : List ℕ) → count_right ws ≡ true → all coordinate_right ws ≡ true → convex (lent_places ws) ≡ true → StandingCorners (lent_places ws)
new_standing ws c r t =
    let k = count_facts ws c in
    record {
      low = omega (arith, k.low, places_length ws 0 (length ws / 2));
      high = omega (arith, k.high, places_length ws 0 (length ws / 2));
      right = places_right_lem ws 0 (length ws / 2) r;
      turns = t;
    }

-- ---- the record of such places is one that question 2 allows, and is bounded
pub words_right : (ps : List Point) → all place_right ps ≡ true → all coordinate_right (place_words ps) ≡ true
unfolding all place_words
words_right [] h = refl
words_right (p ∷ ps) h =
    let parts = both (place_right p) (all place_right ps) h in
    let ends = both (coordinate_right p.east) (coordinate_right p.north) parts.0 in
    rw (ends.0, ends.1, words_right ps parts.1)

module _ (ps : List Point) where
  abbrev pad : List ℕ
  pad = replicate (16 - 2 * length ps) 0

  pad_right : all place_right ps ≡ true → all coordinate_right (place_words ps ++ pad) ≡ true
  pad_right r = every_append coordinate_right (place_words ps) pad (words_right ps r) (every_replicate coordinate_right (16 - 2 * length ps) 0 refl)

  pub corners_bounded : length ps ≤ 8 → all place_right ps ≡ true → BoundedRecord (block_record ps)
  unfolding block_record all
  corners_bounded h r = block_bounded (block_record ps) (block_record_length ps h) h (pad_right r)

  standing_right : StandingCorners ps → block_right (block_record ps) ≡ true
  unfolding block_right block_record zero_from
  standing_right f = ap (λ (b : Bool). zero_from (block_record ps) 0 || b) upright ∙ or-true (zero_from (block_record ps) 0)
    where
      zeros : zero_from (block_record ps) (1 + 2 * length ps) ≡ true
      zeros =
          ap (λ (l : List ℕ). all (λ v. eqb v 0) l) (drop_at (length ps ∷ place_words ps) pad (1 + 2 * length ps) (omega (arith, place_words_length ps)))
          ∙ every_replicate (λ v. eqb v 0) (16 - 2 * length ps) 0 refl

      turns : convex (places_from (block_record ps) 1 (length ps)) ≡ true
      turns = rw (corners_record ps) f.turns

      upright : leb 3 (length ps) && leb (length ps) 8 && zero_from (block_record ps) (1 + 2 * length ps) && all coordinate_right (drop 1 (block_record ps))
          && convex (places_from (block_record ps) 1 (length ps)) ≡ true
      upright = rw (le-leb 3 (length ps) f.low, le-leb (length ps) 8 f.high, zeros, pad_right f.right, turns)

pub block_right_lem : (ps : List Point) → BlockPlace ps → block_right (block_record ps) ≡ true
unfolding block_right block_record zero_from all place_words
block_right_lem ps vacant = refl
block_right_lem ps (standing f) = standing_right ps f

pub run_right_lem : (ps : List Point) → RunPlace ps → run_right (run_record ps) ≡ true
unfolding run_right run_record zero_from all place_words
run_right_lem ps unused = refl
run_right_lem ps (two {p = p} {q = q} h) =
    let ends = both (place_right p) (place_right q) h in
    let pe = both (coordinate_right p.east) (coordinate_right p.north) ends.0 in
    let qe = both (coordinate_right q.east) (coordinate_right q.north) ends.1 in
    rw (pe.0, pe.1, qe.0, qe.1)

abbrev pub end_words : Point → Point → List ℕ
end_words p q = 1 ∷ p.east ∷ p.north ∷ q.east ∷ q.north ∷ []

pub ends_bounded : (p q : Point) → place_right p && place_right q ≡ true → BoundedRun (end_words p q)
ends_bounded p q h =
    let ends = both (place_right p) (place_right q) h in
    let a = both (coordinate_right p.east) (coordinate_right p.north) ends.0 in
    let b = both (coordinate_right q.east) (coordinate_right q.north) ends.1 in
    record { sized = refl; flag = omega arith; coordinates = λ i l. at i l (leb-true _ _ a.0) (leb-true _ _ a.1) (leb-true _ _ b.0) (leb-true _ _ b.1) }
  where
    at : (i : ℕ) → i < 5 → p.east ≤ 32767 → p.north ≤ 32767 → q.east ≤ 32767 → q.north ≤ 32767 → word (end_words p q) i ≤ 32767
    at zero l a b c d = omega arith
    at (suc zero) l a b c d = a
    at (suc (suc zero)) l a b c d = b
    at (suc (suc (suc zero))) l a b c d = c
    at (suc (suc (suc (suc zero)))) l a b c d = d
    at (suc (suc (suc (suc (suc i))))) l a b c d = absurd (omega arith)

pub no_run_bounded : BoundedRun (replicate 5 0)
no_run_bounded = record { sized = refl; flag = omega arith; coordinates = λ i l. rw (word_zeros 5 i) (omega arith) }

-- ---- a record that question 2 allows is the record of the places that it says
past_zero : (ws : List ℕ) (from i : ℕ) → zero_from ws from ≡ true → from ≤ i → word ws i ≡ 0
past_zero ws from i z h = go (dec_lt i (length ws))
  where
    go : Dec (i < length ws) → word ws i ≡ 0
    go (yes l) = zero_word ws from i z h l
    go (no l) = get_or-eq_default ws 0 {n = i} (omega arith)

pub block_again : (ws : List ℕ) → length ws ≡ 17 → block_right ws ≡ true → ws ≡ block_record (corners ws)
block_again ws l h = go (block_cases ws h)
  where
    count : length (corners ws) ≡ word ws 0
    count = places_length ws 1 (word ws 0)

    made : word ws 0 ≤ 8 → ((i : ℕ) → 2 * word ws 0 < i → word ws i ≡ 0) → ws ≡ block_record (corners ws)
    made s z =
        record_ext (corners ws) ws (omega (arith, count)) l (sym count)
        (λ k b.
        let c = corner_is ws k (omega (arith, count)) in
        (sym (ap (λ (p : Point). p.east) c), sym (ap (λ (p : Point). p.north) c)))
        (λ i b. z i (omega (arith, count)))

    go : (zero_from ws 0 ≡ true) ⊎ StandingRecord ws → ws ≡ block_record (corners ws)
    go (inl z) = let e = past_zero ws 0 0 z (omega arith) in made (omega arith) (λ i b. past_zero ws 0 i z (omega arith))
    go (inr s) = made s.high (λ i b. past_zero ws (1 + 2 * word ws 0) i s.unused (omega arith))

pub run_again : (ws : List ℕ) → length ws ≡ 5 → run_right ws ≡ true → ws ≡ run_record (places_from ws 1 (2 * word ws 0))
unfolding places_from run_record place_words
run_again ws l h = go (run_cases ws h)
  where
    go : (zero_from ws 0 ≡ true) ⊎ ((word ws 0 ≡ 1) × (all coordinate_right (drop 1 ws) ≡ true)) → ws ≡ run_record (places_from ws 1 (2 * word ws 0))
    go (inl z) =
        rw (past_zero ws 0 0 z (omega arith))
        (ext_get_or 0 ws (run_record []) l (λ i b. past_zero ws 0 i z (omega arith) ∙ sym (ap (λ (s : List ℕ). word s i) run_record_none ∙ word_zeros 5 i)))
    go (inr s) = rw s.0 (ext_get_or 0 ws (run_record (places_from ws 1 2)) l (λ i b. at i (omega arith)))
      where
        at : (i : ℕ) → i < 5 → word ws i ≡ word (run_record (places_from ws 1 2)) i
        at zero b = s.0
        at (suc zero) b = refl
        at (suc (suc zero)) b = refl
        at (suc (suc (suc zero))) b = refl
        at (suc (suc (suc (suc zero)))) b = refl
        at (suc (suc (suc (suc (suc i))))) b = absurd (omega arith)

-- and says places that a block or a run may hold
all_coordinates : (ws : List ℕ) → word ws 0 ≤ 8 → all coordinate_right (drop 1 ws) ≡ true → all coordinate_right ws ≡ true
unfolding all
all_coordinates [] h a = refl
all_coordinates (w ∷ ws) h a = and_yes (coordinate_right w) (all coordinate_right ws) (le-leb w 32767 (omega arith)) a

pub block_place : (ws : List ℕ) → block_right ws ≡ true → BlockPlace (corners ws)
unfolding places_from
block_place ws h = go (block_cases ws h)
  where
    count : length (corners ws) ≡ word ws 0
    count = places_length ws 1 (word ws 0)

    go : (zero_from ws 0 ≡ true) ⊎ StandingRecord ws → BlockPlace (corners ws)
    go (inl z) = rw (past_zero ws 0 0 z (omega arith)) vacant
    go (inr s) =
        standing {ps = corners ws}
        record {
          low = rw count s.low;
          high = rw count s.high;
          right = places_right_lem ws 1 (word ws 0) (all_coordinates ws s.high s.rest);
          turns = s.turns;
        }

pub run_place : (ws : List ℕ) → run_right ws ≡ true → RunPlace (places_from ws 1 (2 * word ws 0))
unfolding places_from all
run_place ws h = go (run_cases ws h)
  where
    go : (zero_from ws 0 ≡ true) ⊎ ((word ws 0 ≡ 1) × (all coordinate_right (drop 1 ws) ≡ true)) → RunPlace (places_from ws 1 (2 * word ws 0))
    go (inl z) = rw (past_zero ws 0 0 z (omega arith)) unused
    go (inr s) =
        let a = both (place_right (place_at ws 1)) _ (places_right_lem ws 1 2 (all_coordinates ws (omega (arith, s.0)) s.1)) in
        rw s.0 (two (and_yes (place_right (place_at ws 1)) (place_right (place_at ws 3)) a.0 (both (place_right (place_at ws 3)) true a.1).0))

-- the record of a run's places reads back as them
pub ends_record : (ps : List Point) → RunPlace ps → places_from (run_record ps) 1 (2 * word (run_record ps) 0) ≡ ps
unfolding run_record places_from place_words
ends_record ps unused = refl
ends_record ps (two h) = refl
