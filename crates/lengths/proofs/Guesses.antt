-- A guess at a root: no step divides by 0, and the squares say whether it is right.
use mathlib.Core.Path.{◌≡◌, sym}
use Prim.Native.Nat.{ℕ, zero, suc, ◌+◌, ◌*◌, ◌/◌, ◌^◌, ◌<◌, ◌≤◌}
use native.Mathlib.Nat.{le-div_iff_mul-le, div-one}
use native.Mathlib.Omega.{arith}
use native.Mathlib.Decide.{dec_lt}
use lib.Count.{count_leading_zeros, leading_length}
use lib.Pow.{pow_mono, pow_pos}
use Rattle.lengths.specs.Length.{root_up}
use Rattle.lengths.proofs.Roots.{root_at}

-- a number from 4 on has at most 29 leading zeros
pub zeros_few : (n : ℕ) → 4 ≤ n → n < 2 ^ 32 → count_leading_zeros 32 n ≤ 29
zeros_few n l h = let t = leading_length 32 n h in go t.0 t.1 t.2 (dec_lt t.0 3)
  where
    go : (m : ℕ) → count_leading_zeros 32 n + m ≡ 32 → n < 2 ^ m → Dec (m < 3) → count_leading_zeros 32 n ≤ 29
    go m e g (yes d) = absurd (omega (arith, pow_mono {i = m} {j = 2} (omega arith)))
    go m e g (no d) = omega arith

-- so that the start is not 0
pub start_more : (k : ℕ) → k ≤ 14 → 0 < 27500 / 2 ^ k
start_more k l =
    let p : 2 ^ k ≤ 16384 = pow_mono {i = k} {j = 14} l in
    let q : 1 ≤ 27500 / 2 ^ k = (le-div_iff_mul-le (pow_pos k)).1 (omega arith) in
    omega arith

-- nor is any step from it
pub step_more : (n g : ℕ) → 0 < n → 0 < g → 2 ≤ g + n / g
step_more n zero p q = absurd (omega arith)
step_more n (suc zero) p q = omega (arith, div-one n)
step_more n (suc (suc g)) p q = omega arith

pub guess_above : (n g : ℕ) → n ≤ g * g → g * g + 1 < n + 2 * g → g ≡ root_up n
guess_above n zero hi lo = absurd (omega arith)
guess_above n (suc g) hi lo = sym (root_at n g (omega arith) hi)

pub guess_below : (n g : ℕ) → g * g < n → n ≤ (g + 1) * (g + 1) → g + 1 ≡ root_up n
guess_below n g lo hi = let q = root_at n g lo (omega arith) in omega (arith, q)
