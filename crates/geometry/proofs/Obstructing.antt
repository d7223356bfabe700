-- Obstruction by the turns of both ends: the law that the search rests on, that it is the same both ways round, and that it is decidable.
use mathlib.Core.Path.{◌≡◌}
use mathlib.Core.Logic.{◌↔◌, ◌⊎◌, inl, inr}
use mathlib.Core.List.{List}
use Prim.Native.Nat.{ℕ, zero, suc, ◌<◌}
use native.Mathlib.Decide.{dec_lt}
use native.Mathlib.Nat.{one-mul}
use native.Mathlib.Omega.{arith}
use lib.IntN.{ℤ, pos, ◌+ℤ◌, ◌-ℤ◌, ◌*ℤ◌}
use lib.Signed.{◌<ℤ◌, ◌≤ℤ◌, clash_ℤ}
use lib.ListN.{length}
use Rattle.geometry.specs.Words.{Point, word, block_words, corners}
use Rattle.geometry.specs.Obstruction.{corner_at, next_corner, turn, side_turn, along, Obstructs, Hidden}
use Rattle.geometry.specs.inner.Sides.{Enters, Span, Meets}
use Rattle.geometry.proofs.Signed.{below_or_not}
use Rattle.geometry.proofs.Weights.{swap, enters_of, of_enters, meets_dec}
use Rattle.geometry.proofs.Sides.{best, Crossed, enters_iff, meets_enters, enters_meets, not_entered}
use Rattle.geometry.proofs.Turns.{scaled}

-- the turn of the point t / n of the way, times n, from the turns of both ends
pub turn_along : (p q a b : Point) (n t : ℕ) → turn p q n (along n t a.east b.east) (along n t a.north b.north)
    ≡ (pos n -ℤ pos t) *ℤ turn p q 1 (pos a.east) (pos a.north) +ℤ pos t *ℤ turn p q 1 (pos b.east) (pos b.north)
unfolding turn along
turn_along p q a b n t =
    rw (one-mul p.north, one-mul p.east)
    (scaled p.east p.north q.east q.north a.east a.north b.east b.north n t)

module _ (ps : List Point) (a b : Point) where
  pub by_turns : Obstructs ps a b → Enters (length ps) (side_turn ps a) (side_turn ps b)
  unfolding Enters side_turn
  by_turns h =
      (h.0, h.1, h.2.whole, h.2.within, λ k l. rw (turn_along (corner_at ps k) (corner_at ps (next_corner ps k)) a b h.0 h.1) at (h.2.left k l))

  pub of_turns : Enters (length ps) (side_turn ps a) (side_turn ps b) → Obstructs ps a b
  unfolding Enters side_turn
  of_turns h = (
    h.0,
    h.1,
    record {
      whole = h.2;
      within = h.3;
      left = λ k l. rw (turn_along (corner_at ps k) (corner_at ps (next_corner ps k)) a b h.0 h.1) (h.4 k l);
    },
  )

  -- the law by signs, over any list of sides: no side has both turns at most 0, and where the first end's turn against side i and the
  -- second end's against side j are at most 0, their product is less than that of the other two
  pub obstructs_iff : Obstructs ps a b ↔ Crossed (length ps) (side_turn ps a) (side_turn ps b)
  obstructs_iff = (
    λ h. (enters_iff (length ps) (side_turn ps a) (side_turn ps b)).0 (by_turns h),
    λ c. of_turns ((enters_iff (length ps) (side_turn ps a) (side_turn ps b)).1 c),
  )

enters_sym : (m : ℕ) (x y : ℕ → ℤ) → Enters m x y → Enters m y x
enters_sym m x y h =
    let e = of_enters m x y h in
    enters_of m y x e.1 e.0 (omega (arith, e.2)) (λ k l. swap e.0 e.1 (x k) (y k) (e.3 k l))

pub obstructs_sym : (ps : List Point) (a b : Point) → Obstructs ps a b → Obstructs ps b a
obstructs_sym ps a b h = of_turns ps b a (enters_sym (length ps) (side_turn ps a) (side_turn ps b) (by_turns ps a b h))

pub hidden_sym : (blocks : List ℕ) (n : ℕ) (a b : Point) → Hidden blocks n a b → Hidden blocks n b a
hidden_sym blocks n a b h = record { stands = h.stands; across = obstructs_sym _ a b h.across }

-- a side with both turns at most 0, or none
abbrev Shut : (ℕ → ℤ) → (ℕ → ℤ) → ℕ → Type 0
Shut x y k = (x k ≤ℤ pos 0) × (y k ≤ℤ pos 0)

shut_dec : (x y : ℤ) → ((x ≤ℤ pos 0) × (y ≤ℤ pos 0)) ⊎ ((pos 0 <ℤ x) ⊎ (pos 0 <ℤ y))
shut_dec x y = go (below_or_not (pos 0) x) (below_or_not (pos 0) y)
  where
    go : (pos 0 <ℤ x) ⊎ (x ≤ℤ pos 0) → (pos 0 <ℤ y) ⊎ (y ≤ℤ pos 0) → ((x ≤ℤ pos 0) × (y ≤ℤ pos 0)) ⊎ ((pos 0 <ℤ x) ⊎ (pos 0 <ℤ y))
    go (inl h) d = inr (inl h)
    go (inr h) (inl k) = inr (inr k)
    go (inr h) (inr k) = inl (h, k)

shut_search : (m : ℕ) (x y : ℕ → ℤ) → ((k : ℕ) × (k < m) × Shut x y k) ⊎ ((k : ℕ) → k < m → Shut x y k → ⊥)
shut_search zero x y = inr (λ k l s. omega arith)
shut_search (suc m) x y = go (shut_search m x y) (shut_dec (x m) (y m))
  where
    open_one : (pos 0 <ℤ x m) ⊎ (pos 0 <ℤ y m) → Shut x y m → ⊥
    open_one (inl h) s = clash_ℤ h s.0
    open_one (inr h) s = clash_ℤ h s.1

    go : ((k : ℕ) × (k < m) × Shut x y k) ⊎ ((k : ℕ) → k < m → Shut x y k → ⊥) → Shut x y m ⊎ ((pos 0 <ℤ x m) ⊎ (pos 0 <ℤ y m))
        → ((k : ℕ) × (k < suc m) × Shut x y k) ⊎ ((k : ℕ) → k < suc m → Shut x y k → ⊥)
    go (inl s) d = inl (s.0, omega (arith, s.1), s.2)
    go (inr f) (inl s) = inl (m, omega arith, s)
    go (inr f) (inr o) = inr each
      where
        at : (k : ℕ) → k < suc m → Dec (k < m) → Shut x y k → ⊥
        at k l (yes h) s = f k h s
        at k l (no h) s = let e : k ≡ m = omega arith in open_one o (rw e at s)

        each : (k : ℕ) → k < suc m → Shut x y k → ⊥
        each k l s = at k l (dec_lt k m) s

pub enters_dec : (m : ℕ) (x y : ℕ → ℤ) → Dec (Enters m x y)
enters_dec m x y = go (shut_search m x y)
  where
    by_span : (l r p q : ℤ) → Span m x y l r p q → Dec (Meets l r p q) → Dec (Enters m x y)
    by_span l r p q s (yes h) = yes (meets_enters m x y s h)
    by_span l r p q s (no h) = no (λ e. h (enters_meets m x y s e))

    go : ((k : ℕ) × (k < m) × Shut x y k) ⊎ ((k : ℕ) → k < m → Shut x y k → ⊥) → Dec (Enters m x y)
    go (inl s) = no (λ h. not_entered m x y s.0 s.1 s.2.0 s.2.1 h)
    go (inr f) = let b = best m x y (λ k l a c. f k l (a, c)) in by_span b.l b.r b.p b.q b.span (meets_dec b.l b.r b.p b.q b.span.low b.span.up)

pub obstructs_dec : (ps : List Point) (a b : Point) → Dec (Obstructs ps a b)
obstructs_dec ps a b = go (enters_dec (length ps) (side_turn ps a) (side_turn ps b))
  where
    go : Dec (Enters (length ps) (side_turn ps a) (side_turn ps b)) → Dec (Obstructs ps a b)
    go (yes h) = yes (of_turns ps a b h)
    go (no h) = no (λ k. h (by_turns ps a b k))

pub hidden_dec : (blocks : List ℕ) (n : ℕ) (a b : Point) → Dec (Hidden blocks n a b)
hidden_dec blocks n a b = go (dec_lt 0 (word (block_words blocks n) 0)) (obstructs_dec (corners (block_words blocks n)) a b)
  where
    go : Dec (0 < word (block_words blocks n) 0) → Dec (Obstructs (corners (block_words blocks n)) a b) → Dec (Hidden blocks n a b)
    go (yes s) (yes h) = yes (record { stands = s; across = h })
    go (yes s) (no h) = no (λ k. h k.across)
    go (no s) d = no (λ k. s k.stands)
