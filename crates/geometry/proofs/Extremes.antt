-- Where places begin and end along a coordinate.
use mathlib.Core.Path.{◌≡◌, refl}
use mathlib.Core.List.{List, [], ◌∷◌}
use Prim.Native.Nat.{ℕ, zero, suc, ◌<◌, ◌≤◌, min, max}
use native.Mathlib.Decide.{dec_lt}
use native.Mathlib.Omega.{arith}
use lib.ListN.{length}
use Rattle.geometry.specs.Words.{Point}
use Rattle.geometry.specs.Obstruction.{corner_at}
use Rattle.geometry.specs.Overlap.{least, greatest}

module _ (c : Point → ℕ) where
  pub least_at : (ps : List Point) (k : ℕ) → k < length ps → least c ps ≤ c (corner_at ps k)
  unfolding least
  least_at [] k h = absurd (omega arith)
  least_at (p ∷ []) zero h = omega arith
  least_at (p ∷ []) (suc k) h = absurd (omega arith)
  least_at (p ∷ q ∷ ps) zero h = omega arith
  least_at (p ∷ q ∷ ps) (suc k) h = omega (arith, least_at (q ∷ ps) k (omega arith))

  pub greatest_at : (ps : List Point) (k : ℕ) → k < length ps → c (corner_at ps k) ≤ greatest c ps
  unfolding greatest
  greatest_at [] k h = absurd (omega arith)
  greatest_at (p ∷ ps) zero h = omega arith
  greatest_at (p ∷ ps) (suc k) h = omega (arith, greatest_at ps k (omega arith))

  -- one that is below x, or above it
  pub least_found : (ps : List Point) (x : ℕ) → 0 < length ps → least c ps < x → (k : ℕ) × (k < length ps) × (c (corner_at ps k) < x)
  unfolding least
  least_found [] x o h = absurd (omega arith)
  least_found (p ∷ []) x o h = (0, o, h)
  least_found (p ∷ q ∷ ps) x o h =
      elim (dec_lt (c p) x) [
        | yes l ↦ (0, o, l)
        | no l ↦ let r = least_found (q ∷ ps) x (omega arith) (omega arith) in (suc r.0, omega (arith, r.1), r.2)
      ]

  pub greatest_found : (ps : List Point) (x : ℕ) → x < greatest c ps → (k : ℕ) × (k < length ps) × (x < c (corner_at ps k))
  unfolding greatest
  greatest_found [] x h = absurd (omega arith)
  greatest_found (p ∷ ps) x h =
      elim (dec_lt x (c p)) [
        | yes l ↦ (0, omega arith, l)
        | no l ↦ let r = greatest_found ps x (omega arith) in (suc r.0, omega (arith, r.1), r.2)
      ]

-- the same of a segment
pub least_two : (c : Point → ℕ) (a b : Point) → least c (a ∷ b ∷ []) ≡ min (c a) (c b)
unfolding least
least_two c a b = refl

pub greatest_two : (c : Point → ℕ) (a b : Point) → greatest c (a ∷ b ∷ []) ≡ max (c a) (c b)
unfolding greatest
greatest_two c a b = omega arith
