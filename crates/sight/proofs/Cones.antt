-- A straight from a corner of a convex polygon goes into it at once where its other end lies strictly left of both sides at the corner.
use mathlib.Core.Path.{◌≡◌, sym, ap, ◌∙◌}
use mathlib.Core.Logic.{◌⊎◌, inl, inr, ⊎_elim}
use mathlib.Core.List.{List}
use mathlib.Core.Bool.{true}
use Prim.Native.Nat.{ℕ, suc, ◌+◌, ◌%◌, ◌<◌}
use native.Mathlib.Decide.{dec_lt, ℕ_discrete}
use native.Mathlib.Nat.{mod-eq_of_lt, mod_self}
use native.Mathlib.Omega.{arith}
use lib.IntN.{ℤ, pos, ◌-ℤ◌, ◌*ℤ◌}
use lib.Signed.{◌<ℤ◌, ◌≤ℤ◌, lt_z, clash_ℤ}
use lib.ListN.{length}
use borrow.Author.Tests.{ne_eqb}
use Rattle.lists.proofs.Below.{all_at}
use Rattle.geometry.specs.Words.{Point}
use Rattle.geometry.specs.Obstruction.{corner_at, next_corner, side_turn, Obstructs}
use Rattle.geometry.specs.Convexity.{side_test, convex}
use Rattle.geometry.proofs.Signed.{◌⊖◌, diff, undiff, positive, ⊖-eq, ⊖-lt}
use Rattle.geometry.proofs.Bound.{test_yes}
use Rattle.geometry.proofs.Corners.{turn_one}
use Rattle.geometry.proofs.Obstructing.{obstructs_iff}

-- both ends of a side lie on its line
flat_start : (d e a b : ℤ) → d *ℤ (a -ℤ a) -ℤ e *ℤ (b -ℤ b) ≡ pos 0
flat_start =
    undiff _ (λ d d'. undiff _ (λ e e'. undiff _ (λ a a'. undiff _ (λ b b'. simp diff (⊖-eq _ _ _ _ (omega arith))))))

flat_end : (d e : ℤ) → d *ℤ e -ℤ e *ℤ d ≡ pos 0
flat_end = undiff _ (λ d d'. undiff _ (λ e e'. simp diff (⊖-eq _ _ _ _ (omega arith))))

module _ (ps : List Point) (k : ℕ) where
  pub start_flat : side_turn ps (corner_at ps k) k ≡ pos 0
  unfolding side_turn
  start_flat =
      let p = corner_at ps k in
      let q = corner_at ps (next_corner ps k) in
      turn_one p q (pos p.east) (pos p.north) ∙ flat_start (pos q.east -ℤ pos p.east) (pos q.north -ℤ pos p.north) (pos p.north) (pos p.east)

  pub end_flat : side_turn ps (corner_at ps (next_corner ps k)) k ≡ pos 0
  unfolding side_turn
  end_flat =
      let p = corner_at ps k in
      let q = corner_at ps (next_corner ps k) in
      turn_one p q (pos q.east) (pos q.north) ∙ flat_end (pos q.east -ℤ pos p.east) (pos q.north -ℤ pos p.north)

-- only one side ends at a corner
pub next_is : (i m : ℕ) → i < m → ((i + 1) % m ≡ i + 1) ⊎ ((i + 1 ≡ m) × ((i + 1) % m ≡ 0))
next_is i m h = go (dec_lt (i + 1) m)
  where
    go : Dec (i + 1 < m) → ((i + 1) % m ≡ i + 1) ⊎ ((i + 1 ≡ m) × ((i + 1) % m ≡ 0))
    go (yes l) = inl (mod-eq_of_lt l)
    go (no l) =
        let e : i + 1 ≡ m = omega arith in
        inr (e, rw e (mod_self m))

pub same_side : (i j m : ℕ) → i < m → j < m → (i + 1) % m ≡ (j + 1) % m → i ≡ j
same_side i j m h l e =
    ⊎_elim
    (λ p. ⊎_elim (λ q. omega (arith, e, p, q)) (λ q. absurd (omega (arith, e, p, q.0, q.1))) (next_is j m l))
    (λ p. ⊎_elim (λ q. absurd (omega (arith, e, p.0, p.1, q))) (λ q. omega (arith, p.0, q.0)) (next_is j m l))
    (next_is i m h)

below_product : (x y z : ℤ) → pos 0 <ℤ x → pos 0 <ℤ y → (pos 0 *ℤ z) <ℤ (x *ℤ y)
below_product x y z x₀ y₀ =
    positive (λ x. (pos 0 *ℤ z) <ℤ (x *ℤ y))
    (λ a. positive (λ y. (pos 0 *ℤ z) <ℤ ((suc a ⊖ 0) *ℤ y))
    (λ b. undiff (λ z. (pos 0 *ℤ z) <ℤ ((suc a ⊖ 0) *ℤ (suc b ⊖ 0))) (λ c c'. simp diff (⊖-lt _ _ _ _ (omega arith))) z) y y₀) x x₀

-- every other corner of a convex polygon lies strictly left of a side
pub left_of : (ps : List Point) (i k : ℕ) → convex ps ≡ true → i < length ps → k < length ps → (k ≡ i → ⊥) → (k ≡ next_corner ps i → ⊥)
    → pos 0 <ℤ side_turn ps (corner_at ps k) i
unfolding convex side_test
left_of ps i k c h l f g =
    let t : side_test ps i k ≡ true = all_at _ (length ps) k (all_at _ (length ps) i c h) l in
    let e : side_test ps i k ≡ lt_z (pos 0) (side_turn ps (corner_at ps k) i) = rw (ne_eqb k i f, ne_eqb k (next_corner ps i) g) in
    test_yes (pos 0) (side_turn ps (corner_at ps k) i) t e

module _ (ps : List Point) (k j : ℕ) (b : Point) (c : convex ps ≡ true) (h : k < length ps) (l : j < length ps) (e : next_corner ps j ≡ k)
    (bk : pos 0 <ℤ side_turn ps b k) (bj : pos 0 <ℤ side_turn ps b j) where
  -- the corner lies on a side that b is left of, or is left of the side itself
  abbrev Stands : ℕ → Type 0
  Stands i = ((side_turn ps (corner_at ps k) i ≡ pos 0) × (pos 0 <ℤ side_turn ps b i)) ⊎ (pos 0 <ℤ side_turn ps (corner_at ps k) i)

  stands : (i : ℕ) → i < length ps → Stands i
  stands i m = go (ℕ_discrete k i) (ℕ_discrete k (next_corner ps i))
    where
      go : Dec (k ≡ i) → Dec (k ≡ next_corner ps i) → Stands i
      go (yes q) d = inl (ap (side_turn ps (corner_at ps k)) (sym q) ∙ start_flat ps k, rw (sym q) bk)
      go (no f) (yes q) =
          let r : j ≡ i = same_side j i (length ps) l m (e ∙ q) in
          inl (ap (λ (x : ℕ). side_turn ps (corner_at ps x) i) q ∙ end_flat ps i, rw (sym r) bj)
      go (no f) (no g) = inr (left_of ps i k c m h f g)

  pub enters_cone : Obstructs ps (corner_at ps k) b
  enters_cone = (obstructs_iff ps (corner_at ps k) b).1 (record { each = each; pairs = pairs })
    where
      each : (i : ℕ) → i < length ps → side_turn ps (corner_at ps k) i ≤ℤ pos 0 → side_turn ps b i ≤ℤ pos 0 → ⊥
      each i m x y = ⊎_elim (λ s. clash_ℤ s.1 y) (λ s. clash_ℤ s x) (stands i m)

      pairs : (i n : ℕ) → i < length ps → n < length ps → side_turn ps (corner_at ps k) i ≤ℤ pos 0 → side_turn ps b n ≤ℤ pos 0
          → (side_turn ps (corner_at ps k) i *ℤ side_turn ps b n) <ℤ (side_turn ps (corner_at ps k) n *ℤ side_turn ps b i)
      pairs i n m o x y =
          ⊎_elim
          (λ s. ⊎_elim (λ t. clash_ℤ t.1 y) (λ t. rw s.0 (below_product (side_turn ps (corner_at ps k) n) (side_turn ps b i) (side_turn ps b n) t s.1)) (stands n o))
          (λ s. clash_ℤ s x)
          (stands i m)
