-- What two polygons share, as tests that are computed: a place of a segment that belongs to both, and none where their rectangles do not touch.
use mathlib.Core.Path.{◌≡◌, sym, subst}
use mathlib.Core.Logic.{⊎_elim}
use mathlib.Core.Bool.{Bool, true, false, ◌&&◌, ◌||◌, true≢false}
use mathlib.Core.List.{List}
use Prim.Native.Nat.{ℕ, zero, suc, ◌<◌, ◌≤◌}
use native.Mathlib.Omega.{arith}
use lib.Dec.{T, ltb, eqb}
use lib.IntN.{ℤ, pos}
use lib.ListN.{length}
use lib.Signed.{lt_z, le_z, lt_z_yes, le_z_yes}
use borrow.Author.Tests.{ltb-true, eqb-true}
use Rattle.lists.specs.Lists.{all_below}
use Rattle.lists.proofs.Below.{all_at}
use Rattle.lists.proofs.Every.{both, or_cases}
use Rattle.geometry.specs.Words.{Point}
use Rattle.geometry.specs.Obstruction.{corner_at, next_corner, turn, side_turn, along}
use Rattle.geometry.specs.Overlap.{greatest}
use Rattle.geometry.proofs.Extremes.{greatest_at}
use Rattle.seams.specs.Seam.{Covers}
use Rattle.neighbours.specs.inner.Rectangles.{Solid}
use Rattle.neighbours.proofs.Enclosing.{Encloses, encloses_east, encloses_north, divided}

-- ---- rectangles that do not touch
unfoldable pub solid : List Point → Bool
unfolding side_turn
solid ps = ltb 2 (length ps) && lt_z (pos 0) (side_turn ps (corner_at ps 2) 0)

-- along a coordinate, every corner of the second lies beyond the first
unfoldable pub before : (Point → ℕ) → List Point → List Point → Bool
unfolding greatest all_below
before c ps qs = all_below (length qs) (λ k. ltb (greatest c ps) (c (corner_at qs k)))

-- along a coordinate, one lies beyond the other
abbrev asunder : (Point → ℕ) → List Point → List Point → Bool
asunder c ps qs = before c ps qs || before c qs ps

unfoldable pub parted : List Point → List Point → Bool
unfolding solid before
parted ps qs = eqb (length ps) 0 || (eqb (length qs) 0 || (solid ps && solid qs && (asunder (λ p. p.east) ps qs || asunder (λ p. p.north) ps qs)))

solid_is : (ps : List Point) → solid ps ≡ true → Solid ps
unfolding solid
solid_is ps h = let e = both (ltb 2 (length ps)) _ h in record { three = ltb-true 2 _ e.0; turns = lt_z_yes (subst T (sym e.1) tt) }

module _ (c : Point → ℕ) (n : ℕ) (z : ℤ) (whole : 1 ≤ n) where
  before_none : (ps qs : List Point) → before c ps qs ≡ true → Encloses c ps n z → Encloses c qs n z → ⊥
  unfolding before
  before_none ps qs h = divided c ps qs (greatest c ps) n z whole (λ k l. greatest_at c ps k l) (λ k l. ltb-true _ _ (all_at _ (length qs) k h l))

  asunder_none : (ps qs : List Point) → asunder c ps qs ≡ true → Encloses c ps n z → Encloses c qs n z → ⊥
  asunder_none ps qs h a b = ⊎_elim (λ f. before_none ps qs f a b) (λ f. before_none qs ps f b a) (or_cases (before c ps qs) _ h)

pub parted_none : (ps qs : List Point) → parted ps qs ≡ true → 0 < length ps → 0 < length qs → (n : ℕ) (e d : ℤ) → 1 ≤ n → Covers ps n e d → Covers qs n e d → ⊥
unfolding parted
parted_none ps qs h p q n e d w f g = ⊎_elim (λ x. none _ p (eqb-true _ 0 x)) (λ x. ⊎_elim (λ y. none _ q (eqb-true _ 0 y)) both_stand (or_cases (eqb (length qs) 0) _ x)) (or_cases (eqb (length ps) 0) _ h)
  where
    none : (x : ℕ) → 0 < x → x ≡ 0 → ⊥
    none x l o = omega arith

    both_stand : solid ps && solid qs && (asunder (λ p. p.east) ps qs || asunder (λ p. p.north) ps qs) ≡ true → ⊥
    both_stand y =
        let a = both (solid ps && solid qs) _ y in
        let s = both (solid ps) _ a.0 in
        let u = solid_is ps s.0 in
        let v = solid_is qs s.1 in
        ⊎_elim
        (λ o. asunder_none (λ p. p.east) n e w ps qs o (encloses_east ps n e d w u f) (encloses_east qs n e d w v g))
        (λ o. asunder_none (λ p. p.north) n d w ps qs o (encloses_north ps n e d w u f) (encloses_north qs n e d w v g))
        (or_cases (asunder (λ p. p.east) ps qs) _ a.1)

-- ---- p holds of some number below n
unfoldable pub some_below : ℕ → (ℕ → Bool) → Bool
some_below zero p = false
some_below (suc n) p = some_below n p || p n

pub some_is : (n : ℕ) (p : ℕ → Bool) → some_below n p ≡ true → (k : ℕ) × (k < n) × (p k ≡ true)
unfolding some_below
some_is zero p h = absurd (true≢false (sym h))
some_is (suc n) p h = ⊎_elim (λ e. let s = some_is n p e in (s.0, omega (arith, s.1), s.2)) (λ e. (n, omega arith, e)) (or_cases (some_below n p) _ h)

-- ---- the place t / n of the way belongs to the polygon
unfoldable pub covered : List Point → Point → Point → ℕ → ℕ → Bool
unfolding turn along all_below
covered ps a b n t =
    all_below (length ps)
    (λ k. le_z (pos 0) (turn (corner_at ps k) (corner_at ps (next_corner ps k)) n (along n t a.east b.east) (along n t a.north b.north)))

pub covered_is : (ps : List Point) (a b : Point) (n t : ℕ) → covered ps a b n t ≡ true → Covers ps n (along n t a.east b.east) (along n t a.north b.north)
unfolding covered
covered_is ps a b n t e = record { left = λ k h. le_z_yes (subst T (sym (all_at _ (length ps) k e h)) tt) }
