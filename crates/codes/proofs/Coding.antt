-- A code by its bits, and how the loop makes it from the last side to the first.
use mathlib.Core.Path.{◌≡◌, refl, sym, ap, ◌∙◌}
use mathlib.Core.Bool.{Bool, true, false, cond}
use mathlib.Core.List.{List}
use Prim.Native.Nat.{ℕ, zero, suc, ◌+◌, ◌*◌, ◌-◌, ◌/◌, ◌%◌, ◌^◌, ◌<◌, ◌≤◌}
use native.Mathlib.Decide.{dec_lt}
use native.Mathlib.Nat.{min-eq_left, min-eq_right, pow-suc, zero-add}
use native.Mathlib.Omega.{arith}
use borrow.Author.Tests.{eq-eqb, ne_eqb}
use lib.IntN.{pos}
use lib.Signed.{lt_z, ◌<ℤ◌, ◌≤ℤ◌}
use lib.ListN.{length}
use Rattle.geometry.specs.Words.{Point, word, corners}
use Rattle.geometry.specs.Obstruction.{side_turn}
use Rattle.geometry.proofs.Bound.{test_yes, test_no}
use Rattle.geometry.proofs.Corners.{places_length}
use Rattle.bits.specs.inner.Bits.{bit}
use Rattle.codes.specs.inner.Codes.{outside, bit_side, code_from, code_of}

-- ---- one digit
cond_low : (t : Bool) → cond {A = ℕ} t 0 1 < 2
cond_low true = omega arith
cond_low false = omega arith

module _ (ps : List Point) (p : Point) where
  out_low : (k : ℕ) → outside ps p k < 2
  unfolding outside
  out_low k = cond_low (lt_z (pos 0) (side_turn ps p k))

  pub out_yes : (k : ℕ) → outside ps p k ≡ 1 → side_turn ps p k ≤ℤ pos 0
  unfolding outside
  out_yes k e = go (lt_z (pos 0) (side_turn ps p k)) refl e
    where
      go : (t : Bool) → t ≡ lt_z (pos 0) (side_turn ps p k) → cond {A = ℕ} t 0 1 ≡ 1 → side_turn ps p k ≤ℤ pos 0
      go true f h = absurd (omega arith)
      go false f h = test_no (pos 0) (side_turn ps p k) refl f

  pub out_no : (k : ℕ) → outside ps p k ≡ 0 → pos 0 <ℤ side_turn ps p k
  unfolding outside
  out_no k e = go (lt_z (pos 0) (side_turn ps p k)) refl e
    where
      go : (t : Bool) → t ≡ lt_z (pos 0) (side_turn ps p k) → cond {A = ℕ} t 0 1 ≡ 0 → pos 0 <ℤ side_turn ps p k
      go true f h = test_yes (pos 0) (side_turn ps p k) refl f
      go false f h = absurd (omega arith)

  -- ---- the digits of a code
  pub from_bit : (k n j : ℕ) → j < n → bit j (code_from ps p k n) ≡ outside ps p (bit_side (length ps) (k + j))
  unfolding bit code_from
  from_bit k zero j h = absurd (omega arith)
  from_bit k (suc n) zero h =
      let o = outside ps p (bit_side (length ps) k) in
      let e : (o + 2 * code_from ps p (suc k) n) % 2 ≡ o = omega (arith, out_low (bit_side (length ps) k)) in
      let i : k ≡ k + 0 = omega arith in
      e ∙ ap (λ (i : ℕ). outside ps p (bit_side (length ps) i)) i
  from_bit k (suc n) (suc j) h =
      let o = outside ps p (bit_side (length ps) k) in
      let e : (o + 2 * code_from ps p (suc k) n) / 2 ≡ code_from ps p (suc k) n = omega (arith, out_low (bit_side (length ps) k)) in
      let i : suc k + j ≡ k + suc j = omega arith in
      ap (bit j) e ∙ from_bit (suc k) n j (omega arith) ∙ ap (λ (i : ℕ). outside ps p (bit_side (length ps) i)) i

  from_low : (k n : ℕ) → code_from ps p k n < 2 ^ n
  unfolding code_from
  from_low k zero = omega arith
  from_low k (suc n) = rw (pow-suc 2 n) (omega (arith, from_low (suc k) n, out_low (bit_side (length ps) k)))

  -- the highest digit apart
  from_top : (k n : ℕ) → code_from ps p k (suc n) ≡ code_from ps p k n + 2 ^ n * outside ps p (bit_side (length ps) (k + n))
  unfolding code_from
  from_top k zero = let i : k ≡ k + 0 = omega arith in rw (← i) (omega arith)
  from_top k (suc n) =
      let i : suc k + n ≡ k + suc n = omega arith in
      let h : code_from ps p (suc k) (suc n) ≡ code_from ps p (suc k) n + 2 ^ n * outside ps p (bit_side (length ps) (k + suc n)) = rw i at (from_top (suc k) n) in
      rw (pow-suc 2 n) (omega (arith, h))

  -- ---- one side more in front
  from_first : (k n : ℕ) → code_from ps p k (suc n) ≡ outside ps p (bit_side (length ps) k) + 2 * code_from ps p (suc k) n
  unfolding code_from
  from_first k n = refl

  from_step : (k : ℕ) → k < length ps - 1 → code_from ps p k 8 ≡ outside ps p k + 2 * (code_from ps p (suc k) 8 % 128)
  from_step k h =
      let s : bit_side (length ps) k ≡ k = min-eq_left (omega arith) in
      let m : code_from ps p (suc k) 8 % 128 ≡ code_from ps p (suc k) 7 = omega (arith, from_top (suc k) 7, from_low (suc k) 7, out_low (bit_side (length ps) (suc k + 7))) in
      from_first k 7 ∙ rw (m, s)

  -- from the last side on every digit is the last side's
  from_last : (k n : ℕ) → length ps - 1 ≤ k → code_from ps p k n + outside ps p (length ps - 1) ≡ 2 ^ n * outside ps p (length ps - 1)
  unfolding code_from
  from_last k zero h = omega arith
  from_last k (suc n) h =
      let s : bit_side (length ps) k ≡ length ps - 1 = min-eq_right h in
      rw (s, pow-suc 2 n) (omega (arith, from_last (suc k) n (omega arith)))

-- ---- the loop
out_is : (ps : List Point) (p : Point) (k : ℕ) {t : Bool} → t ≡ lt_z (pos 0) (side_turn ps p k) → outside ps p k ≡ cond t 0 1
unfolding outside
out_is ps p k e = ap (λ (t : Bool). cond t 0 1) (sym e)

module _ (ws : List ℕ) (p : Point) (stands : 0 < word ws 0) where
  pub code_last : (c : ℕ) (t : Bool) → t ≡ lt_z (pos 0) (side_turn (corners ws) p (word ws 0 - 1)) → c ≡ cond t 0 255 → c ≡ code_from (corners ws) p (word ws 0 - 1) 8
  code_last c t h g = go t h g
    where
      n : length (corners ws) - 1 ≡ word ws 0 - 1
      n = ap (λ (m : ℕ). m - 1) (places_length ws 1 (word ws 0))

      l : code_from (corners ws) p (word ws 0 - 1) 8 + outside (corners ws) p (word ws 0 - 1) ≡ 256 * outside (corners ws) p (word ws 0 - 1)
      l = rw n at (from_last (corners ws) p (word ws 0 - 1) 8 (omega (arith, n)))

      go : (t : Bool) → t ≡ lt_z (pos 0) (side_turn (corners ws) p (word ws 0 - 1)) → c ≡ cond t 0 255 → c ≡ code_from (corners ws) p (word ws 0 - 1) 8
      go true h g = omega (arith, l, out_is (corners ws) p (word ws 0 - 1) h)
      go false h g = omega (arith, l, out_is (corners ws) p (word ws 0 - 1) h)

  pub code_step : (c k r : ℕ) (t : Bool) → 0 < k → k < word ws 0 → t ≡ lt_z (pos 0) (side_turn (corners ws) p (k - 1)) → c ≡ code_from (corners ws) p k 8
      → r ≡ cond t 0 1 + 2 * (c % 128) → r ≡ code_from (corners ws) p (k - 1) 8
  code_step c k r t lo hi h e f =
      let n : length (corners ws) ≡ word ws 0 = places_length ws 1 (word ws 0) in
      let i : suc (k - 1) ≡ k = omega arith in
      f ∙ sym (from_step (corners ws) p (k - 1) (omega (arith, n)) ∙ rw (i, out_is (corners ws) p (k - 1) h, ← e))

  pub code_done : (c k : ℕ) → k ≤ 0 → c ≡ code_from (corners ws) p k 8 → c ≡ code_of ws p
  unfolding code_of
  code_done c k h e = let z : k ≡ 0 = omega arith in rw (ne_eqb (word ws 0) 0 (λ e. omega arith)) (rw z at e)

  pub code_bit : (k : ℕ) → k < 8 → bit k (code_of ws p) ≡ outside (corners ws) p (bit_side (word ws 0) k)
  code_bit k h =
      ap (bit k) (sym (code_done (code_from (corners ws) p 0 8) 0 (omega arith) refl)) ∙ from_bit (corners ws) p 0 8 k h
      ∙ rw (zero-add k, places_length ws 1 (word ws 0))

pub code_absent : (ws : List ℕ) (p : Point) → word ws 0 ≡ 0 → 255 ≡ code_of ws p
unfolding code_of
code_absent ws p e = rw (eq-eqb (word ws 0) 0 e)

pub code_low : (ws : List ℕ) (p : Point) → code_of ws p < 256
code_low ws p =
    elim (dec_lt 0 (word ws 0)) [
      | yes h ↦ omega (arith, code_done ws p h _ 0 (omega arith) refl, from_low (corners ws) p 0 8)
      | no h ↦ omega (arith, code_absent ws p (omega arith))
    ]

-- ---- a set bit of a number that is not 0
pub some_bit : (d n : ℕ) → 0 < n → n < 2 ^ d → (k : ℕ) × (k < d) × (bit k n ≡ 1)
unfolding bit
some_bit zero n h l = absurd (omega arith)
some_bit (suc d) n h l =
    elim (dec_lt 0 (n % 2)) [
      | yes o ↦ (0, omega arith, omega arith)
      | no o ↦ let r = some_bit d (n / 2) (omega arith) (omega (arith, pow-suc 2 d)) in (suc r.0, omega (arith, r.1), r.2)
    ]
