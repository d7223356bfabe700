-- What question 8 says of the corners of a block: none lies right of a side, and the next corner but one lies left of it.
use mathlib.Core.Path.{◌≡◌, refl, ap, ◌∙◌, subst}
use mathlib.Core.Bool.{Bool, true, false, ◌||◌}
use mathlib.Core.Logic.{◌⊎◌, inl, inr, ⊎_elim}
use mathlib.Core.List.{List}
use Prim.Native.Nat.{ℕ, ◌+◌, ◌%◌, ◌<◌, ◌≤◌}
use native.Mathlib.Decide.{dec_lt}
use native.Mathlib.Nat.{mod-eq_of_lt, mod_self}
use native.Mathlib.Omega.{arith}
use borrow.Author.Tests.{eqb-true}
use lib.Dec.{eqb}
use lib.IntN.{ℤ, pos, ◌+ℤ◌, +ℤ_idl}
use lib.Signed.{◌<ℤ◌, ◌≤ℤ◌, lt_z, ≤ℤ_refl}
use lib.ListN.{length}
use Rattle.geometry.specs.Words.{Point}
use Rattle.geometry.specs.Obstruction.{corner_at, next_corner, side_turn}
use Rattle.lists.specs.Lists.{all_below}
use Rattle.geometry.specs.Convexity.{side_test, convex}
use Rattle.lists.proofs.Below.{all_at}
use Rattle.geometry.proofs.Bound.{test_yes}
use Rattle.geometry.proofs.Signed.{lt_le}
use Rattle.codes.proofs.Crosses.{turn_at, bend, turn_from, turn_first, turn_last}

-- ---- the corner after
pub next_up : (m k : ℕ) → k + 1 < m → (k + 1) % m ≡ k + 1
next_up m k h = mod-eq_of_lt h

pub next_end : (m k : ℕ) → k + 1 ≡ m → (k + 1) % m ≡ 0
next_end m k e = rw e (mod_self m)

-- the next corner but one is neither end of the side
record Apart (m k : ℕ) : Type 0 where
  below : (k + 1) % m < m
  beyond : ((k + 1) % m + 1) % m < m
  not_first : ((k + 1) % m + 1) % m ≡ k → ⊥
  not_last : ((k + 1) % m + 1) % m ≡ (k + 1) % m → ⊥

apart : (m k : ℕ) → 3 ≤ m → k < m → Apart m k
apart m k h l = go (dec_lt (k + 1) m) (dec_lt (k + 1 + 1) m)
  where
    of : (j i : ℕ) → (k + 1) % m ≡ j → (j + 1) % m ≡ i → (j < m) → (i < m) → (i ≡ k → ⊥) → (i ≡ j → ⊥) → Apart m k
    of j i e f a b c d = let g : ((k + 1) % m + 1) % m ≡ i = rw e f in record { below = rw e a; beyond = rw g b; not_first = rw g c; not_last = rw (g, e) d }

    go : Dec (k + 1 < m) → Dec (k + 1 + 1 < m) → Apart m k
    go (yes a) (yes b) = of (k + 1) (k + 1 + 1) (next_up m k a) (next_up m (k + 1) b) a b (λ e. omega arith) (λ e. omega arith)
    go (yes a) (no b) = of (k + 1) 0 (next_up m k a) (next_end m (k + 1) (omega arith)) a (omega arith) (λ e. omega arith) (λ e. omega arith)
    go (no a) b = of 0 1 (next_end m k (omega arith)) (next_up m 0 (omega arith)) (omega arith) (omega arith) (λ e. omega arith) (λ e. omega arith)

-- ---- both ends of a side lie on it
module _ (ps : List Point) (k : ℕ) where
  pub side_first : side_turn ps (corner_at ps k) k ≡ pos 0
  unfolding side_turn
  side_first = turn_first (corner_at ps k) (corner_at ps (next_corner ps k))

  pub side_last : side_turn ps (corner_at ps (next_corner ps k)) k ≡ pos 0
  unfolding side_turn
  side_last = turn_last (corner_at ps k) (corner_at ps (next_corner ps k))

-- ---- the test of a side
or_cases : (a b c : Bool) → a || b || c ≡ true → (a ≡ true) ⊎ ((b ≡ true) ⊎ (c ≡ true))
or_cases true b c e = inl refl
or_cases false true c e = inr (inl refl)
or_cases false false c e = inr (inr e)

pub record Round (ps : List Point) : Type 0 where
  pub next_below : (k : ℕ) → k < length ps → next_corner ps (next_corner ps k) < length ps
  pub none_right : (k l : ℕ) → k < length ps → l < length ps → pos 0 ≤ℤ side_turn ps (corner_at ps l) k
  pub next_left : (k : ℕ) → k < length ps → pos 0 <ℤ side_turn ps (corner_at ps (next_corner ps (next_corner ps k))) k

module _ (ps : List Point) (c : convex ps ≡ true) (m : 3 ≤ length ps) where
  passed : (k l : ℕ) → k < length ps → l < length ps → (l ≡ k) ⊎ ((l ≡ next_corner ps k) ⊎ (pos 0 <ℤ side_turn ps (corner_at ps l) k))
  unfolding convex side_test
  passed k l h i =
      ⊎_elim (λ e. inl (eqb-true l k e)) (λ o. inr (⊎_elim (λ e. inl (eqb-true l (next_corner ps k) e)) (λ e. inr (test_yes (pos 0) _ e refl)) o))
      (or_cases (eqb l k) (eqb l (next_corner ps k)) (lt_z (pos 0) (side_turn ps (corner_at ps l) k))
      (all_at (λ l. side_test ps k l) (length ps) l (all_at (λ k. all_below (length ps) (λ l. side_test ps k l)) (length ps) k c h) i))

  level : (k l : ℕ) → k < length ps → l < length ps → pos 0 ≤ℤ side_turn ps (corner_at ps l) k
  level k l h i =
      ⊎_elim (λ (e : l ≡ k). rw (e, side_first ps k) (≤ℤ_refl (pos 0)))
      (λ o. ⊎_elim (λ (e : l ≡ next_corner ps k). rw (e, side_last ps k) (≤ℤ_refl (pos 0))) (λ t. lt_le t) o)
      (passed k l h i)

  left : (k : ℕ) → k < length ps → pos 0 <ℤ side_turn ps (corner_at ps (next_corner ps (next_corner ps k))) k
  left k h =
      let a = apart (length ps) k m h in
      ⊎_elim (λ e. absurd (a.not_first e)) (λ o. ⊎_elim (λ e. absurd (a.not_last e)) (λ t. t) o)
      (passed k (next_corner ps (next_corner ps k)) h a.beyond)

  pub round_of : Round ps
  round_of = record { next_below = λ k h. (apart (length ps) k m h).beyond; none_right = level; next_left = left }

-- ---- the side before a corner turns left into the side after it
pub bend_left : (ps : List Point) → Round ps → (k : ℕ) → k < length ps
    → pos 0 <ℤ bend (corner_at ps k) (corner_at ps (next_corner ps k)) (corner_at ps (next_corner ps k)) (corner_at ps (next_corner ps (next_corner ps k)))
unfolding side_turn
bend_left ps r k h =
    let p = corner_at ps k in
    let q = corner_at ps (next_corner ps k) in
    let s = corner_at ps (next_corner ps (next_corner ps k)) in
    let e : turn_at p q s ≡ bend p q q s = turn_from p q q s ∙ ap (λ (z : ℤ). z +ℤ bend p q q s) (turn_last p q) ∙ +ℤ_idl (bend p q q s) in
    subst (λ (z : ℤ). pos 0 <ℤ z) e (r.next_left k h)
