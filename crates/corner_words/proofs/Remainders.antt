-- The lowest bits of a word, by a remainder.
use mathlib.Core.Path.{◌≡◌, ap, ◌∙◌}
use Prim.Native.Nat.{ℕ, zero, suc, ◌+◌, ◌*◌, ◌/◌, ◌%◌, ◌^◌, ◌<◌, ◌≤◌}
use native.Mathlib.Nat.{pow-suc, div-add-mod, mod-lt, mod-eq_of_lt, add-mul-mod_self_left}
use native.Mathlib.Decide.{ℕ_discrete}
use native.Mathlib.Omega.{arith}
use lib.Pow.{pow_pos, pow-lt}
use Rattle.bits.specs.inner.Bits.{bit}
use Rattle.bits.proofs.Counting.{bit_set, bit_low}
use Rattle.corner_words.specs.inner.Corners.{LowBits}

-- the remainder by an even number: its lowest bit, and its half
rest_low : (n p q r : ℕ) → 2 * p * q + r ≡ n → r % 2 ≡ n % 2
rest_low n p q r e = omega arith

rest_half : (n p q r : ℕ) → 2 * p * q + r ≡ n → r < 2 * p → r / 2 ≡ n / 2 % p
rest_half n p q r e l =
    let h : n / 2 ≡ r / 2 + p * q = omega arith in
    let m : r / 2 < p = omega arith in
    rw (h, add-mul-mod_self_left (r / 2) p q, mod-eq_of_lt m)

module _ (n k : ℕ) where
  power : 2 ^ suc k ≡ 2 * 2 ^ k
  power = omega (arith, pow-suc 2 k)

  power_low : n % 2 ^ suc k % 2 ≡ n % 2
  power_low = rw power (rest_low n (2 ^ k) _ _ (div-add-mod n (2 * 2 ^ k)))

  power_half : n % 2 ^ suc k / 2 ≡ n / 2 % 2 ^ k
  power_half = rw power (rest_half n (2 ^ k) _ _ (div-add-mod n (2 * 2 ^ k)) (mod-lt n (omega (arith, pow_pos k))))

bit_rest : (k n i : ℕ) → i < k → bit i (n % 2 ^ k) ≡ bit i n
unfolding bit
bit_rest zero n i l = absurd (omega arith)
bit_rest (suc k) n zero l = power_low n k
bit_rest (suc k) n (suc i) l = ap (bit i) (power_half n k) ∙ bit_rest k (n / 2) i (omega arith)

bit_past : (k n i : ℕ) → k ≤ i → bit i (n % 2 ^ k) ≡ 0
bit_past k n i l = go (ℕ_discrete (bit i (n % 2 ^ k)) 0)
  where
    go : Dec (bit i (n % 2 ^ k) ≡ 0) → bit i (n % 2 ^ k) ≡ 0
    go (yes e) = e
    go (no d) = absurd (omega (arith, bit_low k (n % 2 ^ k) i (mod-lt n (pow_pos k)) (bit_set i (n % 2 ^ k) d)))

one_shifted : (n : ℕ) → n < 64 → 1 * 2 ^ n % 2 ^ 64 ≡ 2 ^ n
one_shifted n l = omega (arith, pow-lt {i = n} {j = 64} l)

pub shifted_some : (n : ℕ) → n < 64 → 0 < 1 * 2 ^ n % 2 ^ 64
shifted_some n l = omega (arith, one_shifted n l, pow_pos n)

pub low_bits_is : (w n : ℕ) → n < 64 → LowBits w n (w % (1 * 2 ^ n % 2 ^ 64))
low_bits_is w n l = rw (one_shifted n l) (record { same = bit_rest n w; clear = bit_past n w })
