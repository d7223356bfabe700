-- The laws of `Shared`: by the weights of both ends, the same both ways round, at an end, and none where no two blocks share a place.
use mathlib.Core.Path.{◌≡◌, refl}
use mathlib.Core.List.{List}
use mathlib.Core.Logic.{⊎_elim}
use Prim.Native.Nat.{ℕ, ◌+◌, ◌-◌, ◌<◌, ◌≤◌}
use native.Mathlib.Decide.{dec_lt, ℕ_discrete}
use native.Mathlib.Omega.{arith}
use lib.IntN.{ℤ, pos}
use lib.ListN.{length, replicate, get_or-replicate}
use Rattle.geometry.specs.Words.{Point, word, block_words, corners}
use Rattle.geometry.specs.Obstruction.{corner_at, next_corner, side_turn}
use Rattle.geometry.proofs.Corners.{places_length}
use Rattle.geometry.proofs.Obstructing.{turn_along}
use Rattle.geometry.proofs.Signed.{below_or_not}
use Rattle.geometry.proofs.Weights.{between}
use Rattle.seams.specs.Seam.{BelongsAt, Shared, Disjoint}
use Rattle.seams.specs.inner.Near.{Alone, Near}
use Rattle.seams.specs.inner.Reach.{On, Touched}
use Rattle.seams.proofs.Closed.{swap, on_neither, on_first}

-- ---- by the weights of both ends
module _ (blocks : List ℕ) (a b : Point) (k : ℕ) where
  abbrev ps : List Point
  ps = corners (block_words blocks k)

  count : length ps ≡ word (block_words blocks k) 0
  count = places_length (block_words blocks k) 1 (word (block_words blocks k) 0)

  pub touched_of : (n t : ℕ) → t ≤ n → BelongsAt blocks k a b n t → Touched (block_words blocks k) a b (n - t) t
  unfolding side_turn
  touched_of n t l h =
      let e : n ≡ n - t + t = omega arith in
      record {
        stands = h.stands;
        around = λ j m. rw between at (rw e at (rw (turn_along (corner_at ps j) (corner_at ps (next_corner ps j)) a b n t) at (h.covers.left j (rw count m))));
      }

  pub of_touched : (u s : ℕ) → k < 24 → Touched (block_words blocks k) a b u s → BelongsAt blocks k a b (u + s) s
  unfolding side_turn
  of_touched u s l h =
      record {
        number = l;
        stands = h.stands;
        covers = record { left = λ j m. rw (turn_along (corner_at ps j) (corner_at ps (next_corner ps j)) a b (u + s) s, between) (h.around j (rw count at m)) };
      }

-- two blocks share the point with the weights u and s
pub record Sharing (blocks : List ℕ) (a b : Point) (p q u s : ℕ) : Type 0 where
  pub some : 1 ≤ u + s
  pub first_number : p < 24
  pub second_number : q < 24
  pub first : Touched (block_words blocks p) a b u s
  pub second : Touched (block_words blocks q) a b u s

module _ {blocks : List ℕ} {a b : Point} where
  pub shared_of : {p q u s : ℕ} → (p ≡ q → ⊥) → Sharing blocks a b p q u s → Shared blocks a b
  shared_of {p} {q} {u} {s} d h =
      record {
        n = u + s;
        t = s;
        p = p;
        q = q;
        whole = h.some;
        within = omega arith;
        different = d;
        first = of_touched blocks a b p u s h.first_number h.first;
        second = of_touched blocks a b q u s h.second_number h.second;
      }

  pub sharing_of : (h : Shared blocks a b) → Sharing blocks a b h.p h.q (h.n - h.t) h.t
  sharing_of h =
      record {
        some = omega (arith, h.whole, h.within);
        first_number = h.first.number;
        second_number = h.second.number;
        first = touched_of blocks a b h.p h.n h.t h.within h.first;
        second = touched_of blocks a b h.q h.n h.t h.within h.second;
      }

  pub turned : {p q u s : ℕ} → Sharing blocks a b p q u s → Sharing blocks a b q p u s
  turned h = record { some = h.some; first_number = h.second_number; second_number = h.first_number; first = h.second; second = h.first }

  -- none where no block p shares a point with a later one
  pub unshared : ((p q u s : ℕ) → p < q → Sharing blocks a b p q u s → ⊥) → Shared blocks a b → ⊥
  unshared f h = elim (dec_lt h.p h.q) [
    | yes l ↦ f _ _ _ _ l (sharing_of h)
    | no l ↦ elim (ℕ_discrete h.p h.q) [ yes e ↦ h.different e | no e ↦ f _ _ _ _ (omega arith) (turned (sharing_of h)) ]
  ]

  -- a block that is alone shares none
  pub alone_unshared : {p q u s : ℕ} → Alone blocks p → p < q → Sharing blocks a b p q u s → ⊥
  alone_unshared {p} {q} {u} {s} o l h =
      let e : p ≡ q = o.alone q (u + s) _ _ h.some (of_touched blocks a b p u s h.first_number h.first) (of_touched blocks a b q u s h.second_number h.second) in
      omega arith

-- ---- the same both ways round, and at an end
touched_sym : (ws : List ℕ) (a b : Point) (u s : ℕ) → Touched ws a b u s → Touched ws b a s u
touched_sym ws a b u s h = record { stands = h.stands; around = λ k l. swap u s (side_turn (corners ws) a k) (side_turn (corners ws) b k) (h.around k l) }

touched_end : (ws : List ℕ) (a b : Point) (u s : ℕ) → 1 ≤ u + s → Touched ws a a u s → Touched ws a b 1 0
touched_end ws a b u s w h = record { stands = h.stands; around = λ k l. first (side_turn (corners ws) a k) (side_turn (corners ws) b k) (h.around k l) }
  where
    first : (x y : ℤ) → On u s x x → On 1 0 x y
    first x y o = ⊎_elim (λ n. absurd (on_neither u s x x w n n o)) (λ n. on_first x y n) (below_or_not x (pos 0))

module _ (blocks : List ℕ) (a b : Point) where
  pub shared_sym : Shared blocks a b → Shared blocks b a
  shared_sym h =
      let i = sharing_of h in
      shared_of h.different
      (record {
        some = omega (arith, i.some);
        first_number = i.first_number;
        second_number = i.second_number;
        first = touched_sym _ a b _ _ i.first;
        second = touched_sym _ a b _ _ i.second;
      })

  -- an end that belongs to two blocks
  pub shared_end : Shared blocks a a → Shared blocks a b
  shared_end h =
      let i = sharing_of h in
      shared_of h.different
      (record {
        some = omega arith;
        first_number = i.first_number;
        second_number = i.second_number;
        first = touched_end _ a b _ _ i.some i.first;
        second = touched_end _ a b _ _ i.some i.second;
      })

  -- where no two blocks share a place
  pub disjoint_unshared : Disjoint blocks → Shared blocks a b → ⊥
  disjoint_unshared d h = h.different (d h.n _ _ h.whole h.p h.q h.first h.second)

-- with the same records
pub shared_same : (blocks blocks' : List ℕ) (a b : Point) → ((k : ℕ) → block_words blocks' k ≡ block_words blocks k) → Shared blocks a b → Shared blocks' a b
shared_same blocks blocks' a b e h =
    let i = sharing_of h in
    shared_of h.different
    (record {
      some = i.some;
      first_number = i.first_number;
      second_number = i.second_number;
      first = rw (e h.p) i.first;
      second = rw (e h.q) i.second;
    })

-- a word for each block, none 0, says nothing
pub near_every : (blocks : List ℕ) → Near blocks (replicate 24 1)
near_every blocks = record { sized = refl; each = λ p l e. absurd (none p l e) }
  where
    none : (p : ℕ) → p < 24 → word (replicate 24 1) p ≡ 0 → ⊥
    none p l e = let h : word (replicate 24 1) p ≡ 1 = get_or-replicate 24 p 1 0 l in omega arith
