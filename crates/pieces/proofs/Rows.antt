-- Spots in lists of floats.
use mathlib.Core.Path.{◌≡◌, ◌∙◌}
use mathlib.Core.List.{List}
use Prim.Native.Nat.{ℕ, ◌+◌, ◌*◌, ◌<◌, ◌≤◌}
use native.Mathlib.Decide.{ℕ_discrete}
use native.Mathlib.Omega.{arith}
use native.Mathlib.Nat.{mul-zero}
use lib.ListN.{length}
use lib.Ieee.{Float}
use Rattle.geometry.specs.Words.{Point}
use Rattle.curves.specs.declared.Spot.{Spot}
use Rattle.curves.specs.Curve.{bezier, curve, bend_at, whole, At}
use Rattle.pieces.specs.Showing.{origin, spot_in, Row}
use Rattle.pieces.specs.inner.Steps.{RowTo, Put}

pub row_none : (f : ℕ → Point) (n : ℕ) (xs : List Float) → length xs ≡ 2 * n → RowTo f n 0 xs
row_none f n xs e = record { sized = e; each = λ j h. absurd (omega arith) }

pub row_next : (f : ℕ → Point) (n t : ℕ) (s : Spot) (xs ys : List Float) → RowTo f n t xs → At (f t) s → Put xs t s ys → RowTo f n (t + 1) ys
row_next f n t s xs ys r x p = record { sized = p.sized ∙ r.sized; each = λ j h. go j h (ℕ_discrete j t) }
  where
    go : (j : ℕ) → j < t + 1 → Dec (j ≡ t) → At (f j) (spot_in ys j)
    go j h (yes e) = rw (e, p.here) x
    go j h (no e) = rw (p.kept j e) (r.each j (omega arith))

nowhere : (t : ℕ) → bend_at origin origin origin t ≡ origin
unfolding bend_at curve bezier
nowhere t = simp mul-zero

pub row_nowhere : (xs : List Float) → Row (bend_at origin origin origin) 9 xs → Row (λ t. origin) 9 xs
row_nowhere xs r = record { sized = r.sized; each = λ j h. rw (nowhere j) at (r.each j h) }

pub row_done : (f : ℕ → Point) (n t : ℕ) (xs : List Float) → RowTo f n t xs → n ≤ t → Row f n xs
row_done f n t xs r h = record { sized = r.sized; each = λ j l. r.each j (omega arith) }

pub origin_spot : (s : Spot) → At (whole origin) s → At origin s
unfolding whole
origin_spot s x = x
