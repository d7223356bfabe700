-- The line of a side tells which places are strictly left of it.
use mathlib.Core.Path.{◌≡◌, refl, sym, ap, ◌∙◌}
use mathlib.Core.Bool.{Bool, true, false}
use mathlib.Core.List.{List}
use Prim.Native.Nat.{ℕ, ◌+◌, ◌*◌, ◌%◌, ◌<◌, ◌≤◌}
use native.Mathlib.Omega.{arith}
use lib.IntN.{ℤ, pos, ◌+ℤ◌, ◌-ℤ◌, ◌*ℤ◌, +ℤ_idl}
use lib.Signed.{lt_z, clash_ℤ}
use mir.Syntax.{w32}
use mir.Val.{SFits}
use Rattle.geometry.specs.Words.{Point, word, corners}
use Rattle.geometry.specs.inner.Bounds.{BoundedRecord}
use Rattle.geometry.specs.Obstruction.{corner_at, next_corner, turn, side_turn}
use Rattle.geometry.proofs.Bound.{test_yes, test_no}
use Rattle.geometry.proofs.Signed.{diff, undiff, ⊖-eq}
use Rattle.geometry.proofs.Corners.{turn_one, places_length, corner_read}
use Rattle.codes.proofs.Signs.{lt_gap, gap_le}
use Rattle.code_table.specs.inner.Lines.{Slopes, LineOf}

-- the turn of a place is how much further across it is than the side's own start
turn_across : (e n px py x y : ℤ) → (e *ℤ (y -ℤ py)) -ℤ (n *ℤ (x -ℤ px)) ≡ ((e *ℤ y) -ℤ (n *ℤ x)) -ℤ ((e *ℤ py) -ℤ (n *ℤ px))
turn_across =
    undiff _ (λ a a'. undiff _ (λ b b'. undiff _ (λ c c'. undiff _ (λ d d'. undiff _ (λ f f'. undiff _ (λ g g'.
    simp diff (⊖-eq _ _ _ _ (omega arith))))))))

-- a test of two numbers is one of their difference
gap_test : (a b : ℤ) → lt_z a b ≡ lt_z (pos 0) (b -ℤ a)
gap_test a b = go (lt_z a b) refl (lt_z (pos 0) (b -ℤ a)) refl
  where
    go : (s : Bool) → s ≡ lt_z a b → (t : Bool) → t ≡ lt_z (pos 0) (b -ℤ a) → s ≡ t
    go true e true f = refl
    go false e false f = refl
    go true e false f = clash_ℤ (lt_gap b a (test_yes a b refl e)) (test_no (pos 0) (b -ℤ a) refl f)
    go false e true f = clash_ℤ (test_yes (pos 0) (b -ℤ a) refl f) (gap_le b a (test_no a b refl e))

back : (a b : ℤ) → (a -ℤ b) +ℤ b ≡ a
back = undiff _ (λ a a'. undiff _ (λ b b'. simp diff (⊖-eq _ _ _ _ (omega arith))))

gap_none : (a b : ℤ) → a -ℤ b ≡ pos 0 → b ≡ a
gap_none a b h = sym (+ℤ_idl b) ∙ ap (λ (z : ℤ). z +ℤ b) (sym h) ∙ back a b

-- the line that the code makes of corners p and q
pub line_is : (ws : List ℕ) (k : ℕ) (p q : Point) (e n level : ℤ) → p ≡ corner_at (corners ws) k → q ≡ corner_at (corners ws) (next_corner (corners ws) k)
    → e ≡ pos q.east -ℤ pos p.east → n ≡ pos q.north -ℤ pos p.north → Slopes e n → SFits w32 level → level ≡ e *ℤ pos p.north -ℤ n *ℤ pos p.east
    → LineOf (corners ws) k e n level
unfolding side_turn
line_is ws k p q e n level f g a b s t l =
    record { slopes = s; fits = t; left = λ x y. gap_test level (e *ℤ pos y -ℤ n *ℤ pos x) ∙ sym (ap (lt_z (pos 0)) (at x y)); on = λ x y z. gap_none (e *ℤ pos y -ℤ n *ℤ pos x) level (sym (at x y) ∙ z) }
  where
    at : (x y : ℕ) → turn (corner_at (corners ws) k) (corner_at (corners ws) (next_corner (corners ws) k)) 1 (pos x) (pos y) ≡ (e *ℤ pos y -ℤ n *ℤ pos x) -ℤ level
    at x y =
        rw (← f, ← g, turn_one p q (pos x) (pos y), ← a, ← b, l)
        (turn_across e n (pos p.east) (pos p.north) (pos x) (pos y))

-- the same of corners as they are read, the second of them corner j
pub line_at : (ws : List ℕ) (k j : ℕ) (p q : Point) (e n level : ℤ) → k < word ws 0 → j < word ws 0 → j ≡ (k + 1) % word ws 0
    → (p.east ≡ word ws (2 * k + 1)) × (p.north ≡ word ws (2 * k + 2)) → (q.east ≡ word ws (2 * j + 1)) × (q.north ≡ word ws (2 * j + 2))
    → e ≡ pos q.east -ℤ pos p.east → n ≡ pos q.north -ℤ pos p.north → Slopes e n → SFits w32 level → level ≡ e *ℤ pos p.north -ℤ n *ℤ pos p.east
    → LineOf (corners ws) k e n level
line_at ws k j p q e n level h i d f g =
    let m : j ≡ next_corner (corners ws) k = d ∙ ap (λ (c : ℕ). (k + 1) % c) (sym (places_length ws 1 (word ws 0))) in
    line_is ws k p q e n level (corner_read ws p k h f.0 f.1) (corner_read ws q j i g.0 g.1 ∙ ap (corner_at (corners ws)) m)

pub corner_small : (ws : List ℕ) (k : ℕ) (p : Point) → BoundedRecord ws → k < word ws 0 → (p.east ≡ word ws (2 * k + 1)) × (p.north ≡ word ws (2 * k + 2)) → (p.east ≤ 32767) × (p.north ≤ 32767)
corner_small ws k p b h f = (
  omega (arith, f.0, b.count, b.coordinates (2 * k + 1) (omega (arith, b.count))),
  omega (arith, f.1, b.count, b.coordinates (2 * k + 2) (omega (arith, b.count))),
)
