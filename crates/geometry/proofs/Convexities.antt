-- The three ways in which a corner passes the test of a side, and the test's answer where only the turn is left.
use mathlib.Core.Path.{◌≡◌, sym, ap, ◌∙◌}
use mathlib.Core.Bool.{true, or-true}
use mathlib.Core.List.{List}
use Prim.Native.Nat.{ℕ, ◌+◌, ◌%◌}
use lib.Dec.{eqb}
use lib.IntN.{ℤ, pos}
use lib.Signed.{lt_z}
use borrow.Author.Tests.{eq-eqb, ne_eqb}
use Rattle.geometry.specs.Words.{Point, word, corners}
use Rattle.geometry.specs.Obstruction.{corner_at, next_corner, side_turn}
use Rattle.geometry.specs.Convexity.{side_test, convex}
use Rattle.lists.specs.Lists.{all_below}
use Rattle.geometry.proofs.Corners.{places_length}

pub side_same : (ps : List Point) (k l : ℕ) → l ≡ k → true ≡ side_test ps k l
unfolding side_test
side_same ps k l e = rw (eq-eqb l k e)

module _ (ws : List ℕ) (k l : ℕ) where
  next_is : {j : ℕ} → j ≡ (k + 1) % word ws 0 → j ≡ next_corner (corners ws) k
  next_is e = e ∙ ap (λ (c : ℕ). (k + 1) % c) (sym (places_length ws 1 (word ws 0)))

  pub side_next : {j : ℕ} → j ≡ (k + 1) % word ws 0 → l ≡ j → true ≡ side_test (corners ws) k l
  unfolding side_test
  side_next e h = rw (eq-eqb l (next_corner (corners ws) k) (h ∙ next_is e), or-true (eqb l k))

  pub side_left : {j : ℕ} {p : Point} {z : ℤ} → j ≡ (k + 1) % word ws 0 → (l ≡ k → ⊥) → (l ≡ j → ⊥)
      → p ≡ corner_at (corners ws) l → z ≡ side_turn (corners ws) p k → lt_z (pos 0) z ≡ side_test (corners ws) k l
  unfolding side_test
  side_left e f g c t = rw (ne_eqb l k f, ne_eqb l (next_corner (corners ws) k) (λ h. g (h ∙ sym (next_is e))), t, c)

pub convex_is : (ws : List ℕ) → convex (corners ws) ≡ all_below (word ws 0) (λ k. all_below (word ws 0) (λ l. side_test (corners ws) k l))
unfolding convex
convex_is ws = ap (λ (c : ℕ). all_below c (λ k. all_below c (λ l. side_test (corners ws) k l))) (places_length ws 1 (word ws 0))
