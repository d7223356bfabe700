-- Squares and roots: the root of a number from that of its quarter, and the rounded-up root from the rounded-down one.
use Prim.Native.Nat.{ℕ, ◌+◌, ◌*◌, ◌/◌, ◌^◌, ◌≤◌, ◌<◌}
use native.Mathlib.Omega.{arith}
use native.Mathlib.Nat.{mul-le-mul}
use native.Mathlib.Decide.{dec_le, dec_lt}
use Rattle.lengths.specs.Length.{RootUp, gap}
use Rattle.lengths.specs.inner.Roots.{Root}

-- the order of squares
pub square_lt : (a b : ℕ) → a * a < b * b → a < b
square_lt a b h = go (dec_lt a b)
  where
    go : Dec (a < b) → a < b
    go (yes i) = i
    go (no f) = let i : b ≤ a = omega arith in absurd (omega (arith, mul-le-mul i i))

pub root_small : (n r : ℕ) → Root n r → n < 2 ^ 64 → r < 2 ^ 32
root_small n r h k = square_lt r (2 ^ 32) (omega (arith, h.below))

-- r = 2 h, for h the root of the fourth part, is the root or one less
pub root_step : (n h : ℕ) → Root (n / 4) h → (2 * h * (2 * h) ≤ n) × (n < (2 * h + 2) * (2 * h + 2))
root_step n h k = omega (arith, k.below, k.above)

pub least_exact : (r : ℕ) → RootUp (r * r) r
least_exact r = record { enough = omega arith; least = λ v h. go v (dec_le r v) h }
  where
    go : (v : ℕ) → Dec (r ≤ v) → r * r ≤ v * v → r ≤ v
    go v (yes i) h = i
    go v (no f) h = let i : v + 1 ≤ r = omega arith in absurd (omega (arith, mul-le-mul i i))

pub least_above : (n r : ℕ) → Root n r → r * r < n → RootUp n (r + 1)
least_above n r h k = record { enough = omega (arith, h.above); least = λ v i. let l = square_lt r v (omega arith) in omega arith }

pub quarter_small : (n h : ℕ) → Root (n / 4) h → n < 2 ^ 64 → h < 2 ^ 31
quarter_small n h k l = square_lt h (2 ^ 31) (omega (arith, k.below))

pub quarter_square : (h : ℕ) → h < 2 ^ 31 → (2 * h + 1) * (2 * h + 1) < 2 ^ 64
quarter_square h k = let i : 2 * h + 1 ≤ 4294967295 = omega arith in omega (arith, mul-le-mul i i)

-- the square of how far apart two coordinates are
pub gap_square_small : (a b : ℕ) → a < 2 ^ 16 → b < 2 ^ 16 → gap a b * gap a b ≤ 4294836225
gap_square_small a b h k = let i : gap a b ≤ 65535 = omega arith in omega (arith, mul-le-mul i i)
