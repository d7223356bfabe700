-- Moved coordinates, and the record of a moved block filled corner by corner.
use mathlib.Core.Path.{◌≡◌, refl, sym, ap, ◌∙◌, subst}
use mathlib.Core.List.{List, map}
use mathlib.Core.Bool.{true, false, ◌&&◌, true≢false, and-false}
use Prim.Native.Nat.{ℕ, ◌+◌, ◌*◌, ◌<◌, ◌≤◌}
use native.Mathlib.Omega.{arith}
use native.Mathlib.Decide.{ℕ_discrete}
use lib.IntN.{ℤ, pos, negsuc, nat_abs, ◌+ℤ◌}
use lib.Signed.{le_z}
use mir.Syntax.{w16}
use mir.Val.{SFits, to_z, of_z}
use mir.ValLaws.{to_z-of_z}
use lib.Seq.{get_or-set_same, get_or-set_other}
use lib.ListN.{length, set, length-set, length-map}
use borrow.Author.Tests.{leb-true}
use Rattle.geometry.specs.Words.{Point, point, word, corners}
use Rattle.geometry.specs.Obstruction.{corner_at}
use Rattle.geometry.proofs.Corners.{corner_is, corner_map}
use Rattle.tables.specs.Written.{block_record}
use Rattle.tables.proofs.Splices.{places_length}
use Rattle.tables.proofs.Places.{record_ext}
use Rattle.records.specs.Questions.{lands_right, shift_right, shifted}
use Rattle.lists.specs.Lists.{all}
use Rattle.lists.proofs.Every.{both, every_yes, every_no, every_at}

-- a displacement goes through its bits wherever the machine reads it
pub by_bits : (P : ℤ → ℤ → Type 0) (e n : ℤ) → SFits w16 e → SFits w16 n → P (to_z w16 (of_z w16 e)) (to_z w16 (of_z w16 n)) → P e n
by_bits P e n fe fn p = subst (λ (y : ℤ). P e y) (to_z-of_z w16 n fn) (subst (λ (x : ℤ). P x (to_z w16 (of_z w16 n))) (to_z-of_z w16 e fe) p)

-- where a coordinate lands
pub natural : (z : ℤ) → le_z (pos 0) z ≡ true → z ≡ pos (nat_abs z)
natural (pos n) h = refl
natural (negsuc n) h = absurd (true≢false (sym h))

pub abs_small : (z : ℤ) → le_z (pos 0) z ≡ true → le_z z (pos 32767) ≡ true → nat_abs z ≤ 32767
abs_small (pos n) h k = leb-true n 32767 k
abs_small (negsuc n) h k = absurd (true≢false (sym h))

pub lands_natural : (at : ℕ) (by : ℤ) → lands_right at by ≡ true → pos at +ℤ by ≡ pos (nat_abs (pos at +ℤ by))
unfolding lands_right
lands_natural at by h = natural (pos at +ℤ by) (both (le_z (pos 0) (pos at +ℤ by)) (le_z (pos at +ℤ by) (pos 32767)) h).0

pub lands_small : (at : ℕ) (by : ℤ) → lands_right at by ≡ true → nat_abs (pos at +ℤ by) ≤ 32767
unfolding lands_right
lands_small at by h =
    let b = both (le_z (pos 0) (pos at +ℤ by)) (le_z (pos at +ℤ by) (pos 32767)) h in
    abs_small (pos at +ℤ by) b.0 b.1

-- the first k corners land
pub record LandTo (de dn : ℤ) (ws : List ℕ) (k : ℕ) : Type 0 where
  pub each : (j : ℕ) → j < k → (lands_right (word ws (2 * j + 1)) de ≡ true) × (lands_right (word ws (2 * j + 2)) dn ≡ true)

module _ (de dn : ℤ) (ws : List ℕ) where
  corner_lands : (k : ℕ) → k < word ws 0 → shift_right de dn (corner_at (corners ws) k) ≡ lands_right (word ws (2 * k + 1)) de && lands_right (word ws (2 * k + 2)) dn
  unfolding shift_right
  corner_lands k h = ap (λ (p : Point). shift_right de dn p) (corner_is ws k h)

  pub land_all : (k : ℕ) → word ws 0 ≤ k → LandTo de dn ws k → true ≡ all (shift_right de dn) (corners ws)
  land_all k h l =
      sym (every_yes (shift_right de dn) (corners ws) (point 0 0)
      (λ j g. let b : j < word ws 0 = omega (arith, places_length ws 1 (word ws 0)) in
      corner_lands j b ∙ rw ((l.each j (omega arith)).0, (l.each j (omega arith)).1)))

  fails : (k : ℕ) → k < word ws 0 → lands_right (word ws (2 * k + 1)) de && lands_right (word ws (2 * k + 2)) dn ≡ false → false ≡ all (shift_right de dn) (corners ws)
  fails k h e =
      sym (every_no (shift_right de dn) (corners ws) k (point 0 0) (omega (arith, places_length ws 1 (word ws 0))) (corner_lands k h ∙ e))

  pub east_fails : (k : ℕ) → k < word ws 0 → lands_right (word ws (2 * k + 1)) de ≡ false → false ≡ all (shift_right de dn) (corners ws)
  east_fails k h e = fails k h (rw e)

  pub north_fails : (k : ℕ) → k < word ws 0 → lands_right (word ws (2 * k + 2)) dn ≡ false → false ≡ all (shift_right de dn) (corners ws)
  north_fails k h e = fails k h (rw e (and-false (lands_right (word ws (2 * k + 1)) de)))

  lands_both : (k : ℕ) → all (shift_right de dn) (corners ws) ≡ true → k < word ws 0 → (lands_right (word ws (2 * k + 1)) de ≡ true) × (lands_right (word ws (2 * k + 2)) dn ≡ true)
  lands_both k a h =
      both (lands_right (word ws (2 * k + 1)) de) (lands_right (word ws (2 * k + 2)) dn)
      (sym (corner_lands k h) ∙ every_at (shift_right de dn) (corners ws) k (point 0 0) a (omega (arith, places_length ws 1 (word ws 0))))

  pub east_lands : (k : ℕ) → all (shift_right de dn) (corners ws) ≡ true → k < word ws 0 → lands_right (word ws (2 * k + 1)) de ≡ true
  east_lands k a h = (lands_both k a h).0

  pub north_lands : (k : ℕ) → all (shift_right de dn) (corners ws) ≡ true → k < word ws 0 → lands_right (word ws (2 * k + 2)) dn ≡ true
  north_lands k a h = (lands_both k a h).1

-- the first k corners are moved
pub record MovedTo (de dn : ℤ) (ws made : List ℕ) (k : ℕ) : Type 0 where
  pub sized : length made ≡ 17
  pub count : word made 0 ≡ word ws 0
  pub past : (j : ℕ) → j < k
      → (word made (2 * j + 1) ≡ nat_abs (pos (word ws (2 * j + 1)) +ℤ de)) × (word made (2 * j + 2) ≡ nat_abs (pos (word ws (2 * j + 2)) +ℤ dn))
  pub rest : (i : ℕ) → 2 * k < i → word made i ≡ 0

module _ (de dn : ℤ) (ws : List ℕ) where
  pub moved_next : (made : List ℕ) (k a b : ℕ) → k < 8 → a ≡ nat_abs (pos (word ws (2 * k + 1)) +ℤ de) → b ≡ nat_abs (pos (word ws (2 * k + 2)) +ℤ dn)
      → MovedTo de dn ws made k → MovedTo de dn ws (set (set made (2 * k + 1) a) (2 * k + 2) b) (k + 1)
  moved_next made k a b h ea eb m =
      record {
        sized = length-set one (2 * k + 2) b ∙ length-set made (2 * k + 1) a ∙ m.sized;
        count = other 0 (omega arith) (omega arith) ∙ m.count;
        past = λ j l. go j l (ℕ_discrete j k);
        rest = λ i l. other i (omega arith) (omega arith) ∙ m.rest i (omega arith);
      }
    where
      one : List ℕ
      one = set made (2 * k + 1) a

      other : (i : ℕ) → (i ≡ 2 * k + 1 → ⊥) → (i ≡ 2 * k + 2 → ⊥) → word (set (set made (2 * k + 1) a) (2 * k + 2) b) i ≡ word made i
      other i p q = get_or-set_other (set made (2 * k + 1) a) (2 * k + 2) i b 0 q ∙ get_or-set_other made (2 * k + 1) i a 0 p

      low : word (set (set made (2 * k + 1) a) (2 * k + 2) b) (2 * k + 1) ≡ a
      low =
          get_or-set_other (set made (2 * k + 1) a) (2 * k + 2) (2 * k + 1) b 0 (omega arith)
          ∙ get_or-set_same made (2 * k + 1) a 0 (omega (arith, m.sized))

      high : word (set (set made (2 * k + 1) a) (2 * k + 2) b) (2 * k + 2) ≡ b
      high = get_or-set_same (set made (2 * k + 1) a) (2 * k + 2) b 0 (omega (arith, m.sized, length-set made (2 * k + 1) a))

      go : (j : ℕ) → j < k + 1 → Dec (j ≡ k)
          → (word (set (set made (2 * k + 1) a) (2 * k + 2) b) (2 * j + 1) ≡ nat_abs (pos (word ws (2 * j + 1)) +ℤ de))
          × (word (set (set made (2 * k + 1) a) (2 * k + 2) b) (2 * j + 2) ≡ nat_abs (pos (word ws (2 * j + 2)) +ℤ dn))
      go j l (yes e) = rw e (low ∙ ea, high ∙ eb)
      go j l (no e) = (
        other (2 * j + 1) (omega arith) (omega arith) ∙ (m.past j (omega arith)).0,
        other (2 * j + 2) (omega arith) (omega arith) ∙ (m.past j (omega arith)).1,
      )

  pub moved_all : (made : List ℕ) (k : ℕ) → word ws 0 ≤ 8 → word ws 0 ≤ k → k ≤ word ws 0 → MovedTo de dn ws made k
      → made ≡ block_record (map (shifted de dn) (corners ws))
  moved_all made k s lo hi m =
      record_ext (map (shifted de dn) (corners ws)) made (omega (arith, size)) m.sized (m.count ∙ sym size) at (λ i h. m.rest i (omega (arith, size)))
    where
      size : length (map (shifted de dn) (corners ws)) ≡ word ws 0
      size = length-map (corners ws) (shifted de dn) ∙ places_length ws 1 (word ws 0)

      corner : (j : ℕ) → j < word ws 0 → corner_at (map (shifted de dn) (corners ws)) j ≡ shifted de dn (point (word ws (2 * j + 1)) (word ws (2 * j + 2)))
      corner j h =
          corner_map (shifted de dn) (corners ws) j (omega (arith, places_length ws 1 (word ws 0))) ∙ ap (λ (p : Point). shifted de dn p) (corner_is ws j h)

      at : (j : ℕ) → j < length (map (shifted de dn) (corners ws))
          → (word made (2 * j + 1) ≡ (corner_at (map (shifted de dn) (corners ws)) j).east) × (word made (2 * j + 2) ≡ (corner_at (map (shifted de dn) (corners ws)) j).north)
      at j h =
          let b : j < word ws 0 = omega (arith, size) in
          ((m.past j (omega arith)).0 ∙ ap (λ (p : Point). p.east) (sym (corner j b)), (m.past j (omega arith)).1 ∙ ap (λ (p : Point). p.north) (sym (corner j b)))
