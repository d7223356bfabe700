-- The bits of a word, its trailing zeros, and its shifts.
use mathlib.Core.Path.{◌≡◌, refl, sym, ap, ◌∙◌}
use Prim.Native.Nat.{ℕ, zero, suc, ◌+◌, ◌*◌, ◌-◌, ◌/◌, ◌%◌, ◌^◌, ◌<◌, max, min}
use native.Mathlib.Nat.{pow-suc, min-le_left, min-le_right, div-div-eq-div-mul}
use native.Mathlib.Decide.{dec_lt}
use native.Mathlib.Omega.{arith}
use lib.Count.{count_trailing_zeros, under}
use lib.Bits.{bit_or, or_step, bit_and, and_step, and_le_r, bit_xor, xor_step, differ}
use lib.Pow.{pow-lt}
use Rattle.bits.specs.inner.Bits.{bit, Lowest, WithoutLowest, With, Without}

-- the trailing zeros are zeros, and the digit after them is set
under_low : (n t i : ℕ) → i < under (n % 2) t → ((j : ℕ) → j < t → bit j (n / 2) ≡ 0) → bit i n ≡ 0
unfolding bit
under_low n t i l h = go (n % 2) refl i l
  where
    go : (d : ℕ) → n % 2 ≡ d → (i : ℕ) → i < under d t → bit i n ≡ 0
    go zero e zero l = e
    go zero e (suc i) l = h i (omega arith)
    go (suc d) e i l = absurd (omega arith)

pub trailing_low : (k n i : ℕ) → i < count_trailing_zeros k n → bit i n ≡ 0
unfolding count_trailing_zeros
trailing_low zero n i l = absurd (omega arith)
trailing_low (suc k) n i l = under_low n (count_trailing_zeros k (n / 2)) i l (trailing_low k (n / 2))

under_at : (n t k : ℕ) → under (n % 2) t < suc k → (t < k → bit t (n / 2) ≡ 1) → bit (under (n % 2) t) n ≡ 1
unfolding bit
under_at n t k l h = go (n % 2) refl l
  where
    go : (d : ℕ) → n % 2 ≡ d → under d t < suc k → bit (under d t) n ≡ 1
    go zero e l = h (omega arith)
    go (suc d) e l = omega (arith, e)

pub trailing_at : (k n : ℕ) → count_trailing_zeros k n < k → bit (count_trailing_zeros k n) n ≡ 1
unfolding count_trailing_zeros
trailing_at zero n l = absurd (omega arith)
trailing_at (suc k) n l = under_at n (count_trailing_zeros k (n / 2)) k l (trailing_at k (n / 2))

under_lt : (n t k : ℕ) → 0 < n → (0 < n / 2 → t < k) → under (n % 2) t < suc k
under_lt n t k p h = go (n % 2) refl
  where
    go : (d : ℕ) → n % 2 ≡ d → under d t < suc k
    go zero e = let q : t < k = h (omega (arith, e)) in omega arith
    go (suc d) e = omega arith

pub trailing_lt : (k n : ℕ) → 0 < n → n < 2 ^ k → count_trailing_zeros k n < k
unfolding count_trailing_zeros
trailing_lt zero n p l = absurd (omega arith)
trailing_lt (suc k) n p l = under_lt n (count_trailing_zeros k (n / 2)) k p (λ q. trailing_lt k (n / 2) q (omega (arith, pow-suc 2 k)))

pub lowest_is : (n : ℕ) → 0 < n → n < 2 ^ 64 → Lowest n (count_trailing_zeros 64 n)
lowest_is n p l =
    let w = trailing_lt 64 n p l in
    record { within = w; set = trailing_at 64 n w; least = trailing_low 64 n }

bit_suc : (i n : ℕ) → bit i (n / 2) ≡ bit (i + 1) n
unfolding bit
bit_suc i n = let q : suc i ≡ i + 1 = omega arith in ap (λ (k : ℕ). bit k n) q

-- one more bit below
pub below_low : (c x : ℕ) → x < 2 → bit 0 (2 * c + x) ≡ x
unfolding bit
below_low c x l = omega arith

pub below_high : (c x i : ℕ) → x < 2 → bit (i + 1) (2 * c + x) ≡ bit i c
below_high c x i l = let q : (2 * c + x) / 2 ≡ c = omega arith in sym (bit_suc i (2 * c + x)) ∙ ap (bit i) q

-- the bits of either word
pub bit_or_lem : (i a b : ℕ) → bit i (bit_or a b) ≡ max (bit i a) (bit i b)
unfolding bit
bit_or_lem zero a b = omega (arith, or_step a b)
bit_or_lem (suc i) a b = let q : bit_or a b / 2 ≡ bit_or (a / 2) (b / 2) = omega (arith, or_step a b) in ap (bit i) q ∙ bit_or_lem i (a / 2) (b / 2)

-- the bits of both words
min_low : (a b : ℕ) → min (a % 2) (b % 2) < 2
min_low a b = omega (arith, min-le_left (a % 2) (b % 2))

pub bit_and_lem : (i a b : ℕ) → bit i (bit_and a b) ≡ min (bit i a) (bit i b)
unfolding bit
bit_and_lem zero a b = omega (arith, and_step a b, min_low a b)
bit_and_lem (suc i) a b =
    let q : bit_and a b / 2 ≡ bit_and (a / 2) (b / 2) = omega (arith, and_step a b, min_low a b) in
    ap (bit i) q ∙ bit_and_lem i (a / 2) (b / 2)

-- 1 less: the lowest set bit is clear, and those above it stay
less_here : (z c : ℕ) → bit z c ≡ 1 → ((i : ℕ) → i < z → bit i c ≡ 0) → bit z (c - 1) ≡ 0
unfolding bit
less_here zero c e f = omega arith
less_here (suc z) c e f =
    let q : (c - 1) / 2 ≡ c / 2 - 1 = omega (arith, f 0 (omega arith)) in
    ap (bit z) q ∙ less_here z (c / 2) e (λ i l. f (suc i) (omega arith))

less_above : (z c : ℕ) → bit z c ≡ 1 → ((i : ℕ) → i < z → bit i c ≡ 0) → (i : ℕ) → z < i → bit i (c - 1) ≡ bit i c
unfolding bit
less_above z c e f zero l = absurd (omega arith)
less_above zero c e f (suc i) l = let q : (c - 1) / 2 ≡ c / 2 = omega arith in ap (bit i) q
less_above (suc z) c e f (suc i) l =
    let q : (c - 1) / 2 ≡ c / 2 - 1 = omega (arith, f 0 (omega arith)) in
    ap (bit i) q ∙ less_above z (c / 2) e (λ j m. f (suc j) (omega arith)) i (omega arith)

min_same : (a : ℕ) → min a a ≡ a
min_same a = omega arith

pub without_is : (c : ℕ) → 0 < c → WithoutLowest c (bit_and c (c - 1))
without_is c p =
    record {
      fewer = omega (arith, and_le_r c (c - 1));
      here = λ z w. omega (arith, bit_and_lem z c (c - 1), less_here z c w.set w.least, min-le_right (bit z c) (bit z (c - 1)));
      rest = λ z i w d. go z i w d (dec_lt i z);
    }
  where
    go : (z i : ℕ) → Lowest c z → (i ≡ z → ⊥) → Dec (i < z) → bit i (bit_and c (c - 1)) ≡ bit i c
    go z i w d (yes l) = omega (arith, bit_and_lem i c (c - 1), w.least i l, min-le_left (bit i c) (bit i (c - 1)))
    go z i w d (no l) =
        let m : z < i = elim (dec_lt z i) [ yes m ↦ m | no m ↦ absurd (d (omega arith)) ] in
        bit_and_lem i c (c - 1) ∙ ap (min (bit i c)) (less_above z c w.set w.least i m) ∙ min_same (bit i c)

pub bit_zero : (i : ℕ) → bit i 0 ≡ 0
unfolding bit
bit_zero zero = refl
bit_zero (suc i) = bit_zero i

pub bit_small : (i n : ℕ) → bit i n < 2
unfolding bit
bit_small zero n = omega arith
bit_small (suc i) n = bit_small i (n / 2)

pub bit_set : (i n : ℕ) → (bit i n ≡ 0 → ⊥) → bit i n ≡ 1
bit_set i n h = elim (dec_lt 0 (bit i n)) [ yes l ↦ omega (arith, bit_small i n) | no l ↦ absurd (h (omega arith)) ]

-- the bits of a small word are low
pub bit_low : (k n i : ℕ) → n < 2 ^ k → bit i n ≡ 1 → i < k
unfolding bit
bit_low zero n i l e = let z : n ≡ 0 = omega arith in absurd (omega (arith, e, ap (bit i) z, bit_zero i))
bit_low (suc k) n zero l e = omega arith
bit_low (suc k) n (suc i) l e = let h = bit_low k (n / 2) i (omega (arith, pow-suc 2 k)) e in omega arith

power_half : (b : ℕ) → 2 ^ suc b / 2 ≡ 2 ^ b
power_half b = omega (arith, pow-suc 2 b)

bit_power : (b : ℕ) → bit b (2 ^ b) ≡ 1
unfolding bit
bit_power zero = refl
bit_power (suc b) = ap (bit b) (power_half b) ∙ bit_power b

bit_power_other : (i b : ℕ) → (i ≡ b → ⊥) → bit i (2 ^ b) ≡ 0
unfolding bit
bit_power_other zero zero d = absurd (d refl)
bit_power_other zero (suc b) d = omega (arith, pow-suc 2 b)
bit_power_other (suc i) zero d = bit_zero i
bit_power_other (suc i) (suc b) d = ap (bit i) (power_half b) ∙ bit_power_other i b (λ q. d (ap suc q))

pub with_is : (c b : ℕ) → b < 64 → With c b (bit_or c (1 * 2 ^ b % 2 ^ 64))
with_is c b l =
    let p : 1 * 2 ^ b % 2 ^ 64 ≡ 2 ^ b = omega (arith, pow-lt {i = b} {j = 64} l) in
    rw p
    (record {
      here = omega (arith, bit_or_lem b c (2 ^ b), bit_power b, bit_small b c);
      rest = λ i d. omega (arith, bit_or_lem i c (2 ^ b), bit_power_other i b d);
    })

-- the bits of which one word has each
differ_low : (x y : ℕ) → x < 2 → y < 2 → differ x y < 2
differ_low zero y p q = q
differ_low (suc x) zero p q = p
differ_low (suc zero) (suc zero) p q = omega arith
differ_low (suc zero) (suc (suc y)) p q = absurd (omega arith)
differ_low (suc (suc x)) (suc y) p q = absurd (omega arith)

bit_xor_lem : (i a b : ℕ) → bit i (bit_xor a b) ≡ differ (bit i a) (bit i b)
unfolding bit
bit_xor_lem zero a b = omega (arith, xor_step a b, differ_low (a % 2) (b % 2) (omega arith) (omega arith))
bit_xor_lem (suc i) a b =
    let q : bit_xor a b / 2 ≡ bit_xor (a / 2) (b / 2) = omega (arith, xor_step a b, differ_low (a % 2) (b % 2) (omega arith) (omega arith)) in
    ap (bit i) q ∙ bit_xor_lem i (a / 2) (b / 2)

differ_none : (x : ℕ) → differ x 0 ≡ x
differ_none zero = refl
differ_none (suc x) = refl

pub without_bit_is : (c b d : ℕ) → b < 64 → With c b d → Without c b (bit_xor d (1 * 2 ^ b % 2 ^ 64))
without_bit_is c b d l w =
    let p : 1 * 2 ^ b % 2 ^ 64 ≡ 2 ^ b = omega (arith, pow-lt {i = b} {j = 64} l) in
    rw p
    (record {
      here = bit_xor_lem b d (2 ^ b) ∙ ap (λ (x : ℕ). differ x (bit b (2 ^ b))) w.here ∙ ap (differ 1) (bit_power b);
      rest = λ i e. bit_xor_lem i d (2 ^ b) ∙ ap (differ (bit i d)) (bit_power_other i b e) ∙ differ_none (bit i d) ∙ w.rest i e;
    })

-- a bit by a shift
pub bit_shift : (b c : ℕ) → c / 2 ^ b % 2 ≡ bit b c
unfolding bit
bit_shift zero c = omega arith
bit_shift (suc b) c = ap (λ (x : ℕ). x % 2) (ap (λ (k : ℕ). c / k) (pow_suc' b) ∙ sym (div-div-eq-div-mul c 2 (2 ^ b))) ∙ bit_shift b (c / 2)
  where
    pow_suc' : (k : ℕ) → 2 ^ suc k ≡ 2 * 2 ^ k
    pow_suc' k = omega (arith, pow-suc 2 k)
