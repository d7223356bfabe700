-- The digits that `io::decimal` writes are those of the definition.
use mathlib.Core.Path.{◌≡◌, sym, ap, ap₂, ◌∙◌}
use mathlib.Core.List.{List, [], ◌∷◌, ◌++◌}
use Prim.Native.Nat.{ℕ, zero, suc, ◌+◌, ◌*◌, ◌-◌, ◌/◌, ◌%◌, ◌^◌, ◌≤◌, ◌<◌}
use native.Mathlib.Nat.{pow-succ', pow-le-pow_right}
use native.Mathlib.Omega.{arith}
use native.Mathlib.Decide.{dec_lt}
use borrow.Author.Tests.{lt-ltb, le-ltb}
use Rattle.io.specs.Digits.{last_digits, hex_digit_ascii, IsDigitCount}
use Rattle.listing.specs.Lines.{digits_within, decimal}

glyph_low : (d : ℕ) → d < 10 → hex_digit_ascii d ≡ 48 + d
glyph_low d l = rw (lt-ltb d 10 l)

-- one digit
within_one : (k n : ℕ) → n < 10 → digits_within (suc k) n ≡ (48 + n) ∷ []
unfolding digits_within
within_one k n l = rw (lt-ltb n 10 l)

-- a digit more
within_more : (k n : ℕ) → 10 ≤ n → digits_within (suc k) n ≡ digits_within k (n / 10) ++ (48 + n % 10) ∷ []
unfolding digits_within
within_more k n l = rw (le-ltb n 10 l)

tens : (r : ℕ) → r < 10 ^ r
tens zero = omega arith
tens (suc r) = rw (pow-succ' 10 r) (omega (arith, tens r))

same_digits : (r k n : ℕ) → suc r ≤ k → n < 10 ^ suc r → (1 < suc r → 10 ^ r ≤ n) → last_digits 10 (suc r) n ≡ digits_within k n
same_digits zero zero n f a b = absurd (omega arith)
same_digits zero (suc k) n f a b =
    let l : n < 10 = omega arith in
    let q : n % 10 ≡ n = omega arith in
    ap (λ (d : ℕ). d ∷ []) (ap hex_digit_ascii q ∙ glyph_low n l) ∙ sym (within_one k n l)
same_digits (suc r) zero n f a b = absurd (omega arith)
same_digits (suc r) (suc k) n f a b =
    let m : 10 * 10 ^ r ≤ n = rw (sym (pow-succ' 10 r)) (b (omega arith)) in
    let h : n < 10 * 10 ^ suc r = rw (sym (pow-succ' 10 (suc r))) a in
    let p : 1 ≤ 10 ^ r = omega (arith, tens r) in
    let l : 10 ≤ n = omega arith in
    let d : n % 10 < 10 = omega arith in
    ap₂ (λ (ds : List ℕ) (x : ℕ). ds ++ x ∷ []) (same_digits r k (n / 10) (omega arith) (omega arith) (λ _. omega arith)) (glyph_low (n % 10) d) ∙ sym (within_more k n l)

pub digits_decimal : (r n : ℕ) → IsDigitCount 10 1 n r → last_digits 10 r n ≡ decimal n
unfolding decimal
digits_decimal zero n f = absurd (omega arith)
digits_decimal (suc r) n f = same_digits r (suc n) n enough f.1 low
  where
    low : 1 < suc r → 10 ^ r ≤ n
    low l = let q : suc r - 1 ≡ r = omega arith in (rw q at f).2 l

    enough : suc r ≤ suc n
    enough = elim (dec_lt 1 (suc r)) [ yes l ↦ omega (arith, low l, tens r) | no l ↦ omega arith ]

-- a word of 64 bits has at most 20 digits
pub few_digits : (r n : ℕ) → n < 2 ^ 64 → IsDigitCount 10 1 n r → r ≤ 20
few_digits r n l f =
    elim (dec_lt 20 r) [
      | yes g ↦ absurd (omega (arith, f.2 (omega arith), pow-le-pow_right {n = 10} (omega arith) {i = 20} {j = r - 1} (omega arith)))
      | no g ↦ omega arith
    ]
