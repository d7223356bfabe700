-- Which way X lies of the side from P to Q: positive to the left.
use mathlib.Core.Path.{◌≡◌}
use Prim.Native.Nat.{ℕ}
use native.Mathlib.Omega.{arith}
use lib.IntN.{ℤ, pos, ◌+ℤ◌, ◌-ℤ◌, ◌*ℤ◌}
use Rattle.geometry.proofs.Signed.{diff, undiff, ⊖-eq, ring}

abbrev pub crossℤ : (px py qx qy dx dy : ℤ) → ℤ
crossℤ px py qx qy dx dy = (qx -ℤ px) *ℤ (dy -ℤ py) -ℤ (qy -ℤ py) *ℤ (dx -ℤ px)

abbrev pub cross : (px py qx qy dx dy : ℕ) → ℤ
cross px py qx qy dx dy = crossℤ (pos px) (pos py) (pos qx) (pos qy) (pos dx) (pos dy)

-- n A + t (B − A), by one coordinate
abbrev pub along : (n t a b : ℕ) → ℤ
along n t a b = pos n *ℤ pos a +ℤ pos t *ℤ (pos b -ℤ pos a)

-- `omega` takes 64 monomials at most: the identity goes in steps
lever : (n t a b p : ℤ) → (n *ℤ a +ℤ t *ℤ (b -ℤ a)) -ℤ n *ℤ p ≡ (n -ℤ t) *ℤ (a -ℤ p) +ℤ t *ℤ (b -ℤ p)
lever =
    undiff _ (λ b b'. undiff _ (λ c c'. undiff _ (λ d d'. undiff _ (λ e e'. undiff _ (λ f f'.
    simp diff (⊖-eq _ _ _ _ (omega arith)))))))

times : (e w t a b : ℤ) → e *ℤ (w *ℤ a +ℤ t *ℤ b) ≡ w *ℤ (e *ℤ a) +ℤ t *ℤ (e *ℤ b)
times e w t a b = simp ring

apart : (w t a b c d : ℤ) → (w *ℤ a +ℤ t *ℤ b) -ℤ (w *ℤ c +ℤ t *ℤ d) ≡ w *ℤ (a -ℤ c) +ℤ t *ℤ (b -ℤ d)
apart w t a b c d = simp ring

-- the point n A + t (B − A), against the block with its corners multiplied by n
pub scaledℤ : (px py qx qy ax ay bx by n t : ℤ) →
    (qx -ℤ px) *ℤ ((n *ℤ ay +ℤ t *ℤ (by -ℤ ay)) -ℤ n *ℤ py) -ℤ (qy -ℤ py) *ℤ ((n *ℤ ax +ℤ t *ℤ (bx -ℤ ax)) -ℤ n *ℤ px)
    ≡ (n -ℤ t) *ℤ crossℤ px py qx qy ax ay +ℤ t *ℤ crossℤ px py qx qy bx by
scaledℤ px py qx qy ax ay bx by n t =
    rw (lever n t ay by py, lever n t ax bx px, times (qx -ℤ px) (n -ℤ t) t _ _, times (qy -ℤ py) (n -ℤ t) t _ _)
    (apart (n -ℤ t) t _ _ _ _)

pub scaled : (px py qx qy ax ay bx by n t : ℕ) →
    (pos qx -ℤ pos px) *ℤ (along n t ay by -ℤ pos n *ℤ pos py) -ℤ (pos qy -ℤ pos py) *ℤ (along n t ax bx -ℤ pos n *ℤ pos px)
    ≡ (pos n -ℤ pos t) *ℤ cross px py qx qy ax ay +ℤ pos t *ℤ cross px py qx qy bx by
scaled px py qx qy ax ay bx by n t = scaledℤ (pos px) (pos py) (pos qx) (pos qy) (pos ax) (pos ay) (pos bx) (pos by) (pos n) (pos t)
