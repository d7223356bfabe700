-- The Bezier curve as the formula 4096 P + (8 - t)³ (A - P) + t³ (C - P), and its two ends.
use mathlib.Core.Path.{◌≡◌, sym, ap, ◌∙◌}
use Prim.Native.Nat.{ℕ, ◌+◌, ◌*◌, ◌-◌, ◌≤◌}
use native.Mathlib.Omega.{arith}
use lib.IntN.{pos, ◌+ℤ◌, ◌-ℤ◌, ◌*ℤ◌}
use Rattle.geometry.proofs.Signed.{⊖-eq, diff}
use Rattle.curves.specs.Curve.{cube, bezier, curve}
use Rattle.curves.proofs.Curves.{cube_small, curve_is}

weighed : (w m v a p c : ℕ) → m + w + v ≡ 4096 → pos (w * a + m * p + v * c) ≡ (pos (4096 * p) +ℤ (pos w *ℤ (pos a -ℤ pos p))) +ℤ (pos v *ℤ (pos c -ℤ pos p))
weighed w m v a p c e =
    let h : (m + w + v) * p ≡ 4096 * p = ap (λ (x : ℕ). x * p) e in
    simp diff (⊖-eq _ _ _ _ (omega arith))

pub formula : (a p c t : ℕ) → t ≤ 8 → pos (curve a p c t) ≡ (pos (4096 * p) +ℤ (pos (cube (8 - t)) *ℤ (pos a -ℤ pos p))) +ℤ (pos (cube t) *ℤ (pos c -ℤ pos p))
formula a p c t h =
    let x = cube_small t h in
    let y = cube_small (8 - t) (omega arith) in
    ap pos (sym (curve_is a p c t h)) ∙ weighed (cube (8 - t)) (4096 - cube (8 - t) - cube t) (cube t) a p c (omega arith)

-- the start is P + (A - P) / 8 and the finish P + (C - P) / 8
pub start_is : (a p c : ℕ) → curve a p c 0 ≡ 512 * (7 * p + a)
unfolding curve bezier
start_is a p c = omega arith

pub finish_is : (a p c : ℕ) → curve a p c 8 ≡ 512 * (7 * p + c)
unfolding curve bezier
finish_is a p c = omega arith
