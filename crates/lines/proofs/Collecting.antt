-- The lines of a run, collected mark by mark.
use mathlib.Core.Path.{◌≡◌, refl, sym, ap, ◌∙◌}
use mathlib.Core.Bool.{Bool, true, false}
use mathlib.Core.List.{List}
use Prim.Native.Nat.{ℕ, zero, suc, ◌+◌, ◌≤◌}
use native.Mathlib.Numerals.{add-one}
use native.Mathlib.Omega.{arith}
use lib.ListN.{length, take}
use Rattle.tables.specs.Tables.{Records, is_corner, place_of, first_end, second_end}
use Rattle.lines.specs.Lines.{insert, coordinate, corner_lines, lines}
use Rattle.lines.specs.inner.Lined.{Rising, none, Lined, Collected}
use Rattle.lines.proofs.Lists.{rising_insert}

pub corners_rising : (R : Records) (e : Bool) (i : ℕ) → Rising 0 (corner_lines R e i)
unfolding corner_lines
corners_rising R e zero = none
corners_rising R e (suc i) = go (is_corner R.blocks i) refl (corners_rising R e i)
  where
    go : (t : Bool) → is_corner R.blocks i ≡ t → Rising 0 (corner_lines R e i) → Rising 0 (corner_lines R e (suc i))
    go true q r = rw q (rising_insert (coordinate e (place_of R i)) (omega arith) r)
    go false q r = rw q r

-- the first n of the list are the corners' lines below mark i
pub record Collecting (R : Records) (e : Bool) (list : List ℕ) (n i : ℕ) : Type 0 where
  pub sized : length list ≡ 194
  pub few : n ≤ i
  pub is : take n list ≡ corner_lines R e i

pub collecting_none : (R : Records) (e : Bool) (list : List ℕ) → length list ≡ 194 → Collecting R e list 0 0
unfolding corner_lines
collecting_none R e list s = record { sized = s; few = omega arith; is = refl }

module _ (R : Records) (e : Bool) (list : List ℕ) (n i : ℕ) (c : Collecting R e list n i) where
  pub collecting_rising : Rising 0 (take n list)
  collecting_rising = rw c.is (corners_rising R e i)

  pub collecting_more : (t : Bool) (new : List ℕ) (r : ℕ) → t ≡ is_corner R.blocks i → t ≡ true → Lined list n (coordinate e (place_of R i)) new r
      → Collecting R e new r (i + 1)
  unfolding corner_lines
  collecting_more t new r p q l =
      let k : is_corner R.blocks i ≡ true = sym p ∙ q in
      record {
        sized = l.sized ∙ c.sized;
        few = omega (arith, l.count, c.few);
        is = l.is ∙ ap (insert (coordinate e (place_of R i))) c.is ∙ rw (add-one, k) refl;
      }

  pub collecting_past : (t : Bool) → t ≡ is_corner R.blocks i → t ≡ false → Collecting R e list n (i + 1)
  unfolding corner_lines
  collecting_past t p q =
      let k : is_corner R.blocks i ≡ false = sym p ∙ q in
      record { sized = c.sized; few = omega (arith, c.few); is = c.is ∙ rw (add-one, k) refl }

-- with the first end's
pub record Firsted (R : Records) (m : ℕ) (e : Bool) (list : List ℕ) (n : ℕ) : Type 0 where
  pub sized : length list ≡ 194
  pub few : n ≤ 193
  pub is : take n list ≡ insert (coordinate e (place_of R (first_end m))) (corner_lines R e 192)

pub firsted : (R : Records) (m : ℕ) (e : Bool) (list : List ℕ) (n i : ℕ) (new : List ℕ) (r : ℕ) → Collecting R e list n i → i ≤ 192 → 192 ≤ i
    → Lined list n (coordinate e (place_of R (first_end m))) new r → Firsted R m e new r
firsted R m e list n i new r c a b l =
    let q : i ≡ 192 = omega arith in
    record {
      sized = l.sized ∙ c.sized;
      few = omega (arith, l.count, c.few);
      is = l.is ∙ ap (insert (coordinate e (place_of R (first_end m)))) (c.is ∙ ap (corner_lines R e) q);
    }

pub firsted_rising : (R : Records) (m : ℕ) (e : Bool) (list : List ℕ) (n : ℕ) → Firsted R m e list n → Rising 0 (take n list)
firsted_rising R m e list n f = rw f.is (rising_insert (coordinate e (place_of R (first_end m))) (omega arith) (corners_rising R e 192))

pub collected : (R : Records) (m : ℕ) (e : Bool) (list : List ℕ) (n : ℕ) (new : List ℕ) (r : ℕ) → Firsted R m e list n
    → Lined list n (coordinate e (place_of R (second_end m))) new r → Collected (lines R m e) new r
unfolding lines
collected R m e list n new r f l =
    record { sized = l.sized ∙ f.sized; count = omega (arith, l.count, f.few); is = l.is ∙ ap (insert (coordinate e (place_of R (second_end m)))) f.is }
