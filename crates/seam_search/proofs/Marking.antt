-- The words of the blocks that may share a place, built from the highest bit down, and what words of zeros say.
use mathlib.Core.Bool.{Bool, true, false}
use mathlib.Core.Path.{◌≡◌, refl, sym, ap, subst, ◌∙◌}
use mathlib.Core.List.{List}
use mathlib.Core.Logic.{⊎_elim}
use Prim.Native.Nat.{ℕ, zero, suc, ◌+◌, ◌*◌, ◌-◌, ◌^◌, ◌<◌, ◌≤◌}
use native.Mathlib.Nat.{pow-suc}
use native.Mathlib.Omega.{arith}
use mir.Val.{bool_byte}
use Rattle.geometry.specs.Words.{word}
use Rattle.bits.specs.inner.Bits.{bit}
use Rattle.bits.proofs.Counting.{bit_zero}
use Rattle.seams.specs.Seam.{Disjoint}
use Rattle.neighbours.specs.inner.Rectangles.{Parted}
use Rattle.neighbours.proofs.Answers.{parted_words, bounds_east, bounds_north}
use Rattle.seam_search.specs.inner.Masks.{Boxed, Divided, Masks}
use Rattle.seam_search.specs.declared.Boxes.{Boxes}

-- ---- by the rectangles of two blocks
pub one_parted : {blocks : List ℕ} {p q : ℕ} → p ≡ q → Parted blocks p q
one_parted e = record { parted = λ n x y h f g. e }

turn_parted : {blocks : List ℕ} {p q : ℕ} → Parted blocks q p → Parted blocks p q
turn_parted h = record { parted = λ n x y l f g. sym (h.parted n x y l g f) }

module _ {blocks : List ℕ} {boxes : Boxes} (b : Boxed blocks boxes) where
  east_of_lem : (p q : ℕ) → p < 24 → q < 24 → word boxes.east p < word boxes.west q → Parted blocks p q
  east_of_lem p q l m g = parted_words blocks p q (bounds_east g (b.easts.each p l) (b.wests.each q m))

  north_of_lem : (p q : ℕ) → p < 24 → q < 24 → word boxes.north p < word boxes.south q → Parted blocks p q
  north_of_lem p q l m g = parted_words blocks p q (bounds_north g (b.norths.each p l) (b.souths.each q m))

  pub divided_east : {p q : ℕ} → p < 24 → q < 24 → Divided boxes.west boxes.east p q → Parted blocks p q
  divided_east l m d = ⊎_elim (λ g. east_of_lem _ _ l m g) (λ g. turn_parted (east_of_lem _ _ m l g)) d

  pub divided_north : {p q : ℕ} → p < 24 → q < 24 → Divided boxes.south boxes.north p q → Parted blocks p q
  divided_north l m d = ⊎_elim (λ g. north_of_lem _ _ l m g) (λ g. turn_parted (north_of_lem _ _ m l g)) d

-- ---- one word
-- bit i of w is that of block q + i
pub record MaskFrom (blocks : List ℕ) (p q w : ℕ) : Type 0 where
  pub high : q ≤ 24
  pub small : w < 2 ^ (24 - q)
  pub each : (i : ℕ) → q + i < 24 → bit i w ≡ 0 → Parted blocks p (q + i)

small_bit : (t : Bool) → bool_byte t < 2
small_bit true = omega arith
small_bit false = omega arith

zero_bit : (t : Bool) → bool_byte t ≡ 0 → t ≡ false
zero_bit true e = absurd (omega (arith, e))
zero_bit false e = refl

module _ {blocks : List ℕ} {p q w : ℕ} (m : MaskFrom blocks p q w) where
  pub mask_next : {x r : ℕ} (t : Bool) → 0 < q → x ≡ bool_byte t → (t ≡ false → Parted blocks p (q - 1)) → bit 0 r ≡ x → ((i : ℕ) → bit (i + 1) r ≡ bit i w) → r ≡ 2 * w + x → MaskFrom blocks p (q - 1) r
  mask_next {x} {r} t l b n lo hi e =
      record {
        high = omega (arith, m.high);
        small = let d : 24 - (q - 1) ≡ suc (24 - q) = omega (arith, m.high) in omega (arith, m.small, b, small_bit t, pow-suc 2 (24 - q), ap (λ (k : ℕ). 2 ^ k) d);
        each = go;
      }
    where
      go : (i : ℕ) → q - 1 + i < 24 → bit i r ≡ 0 → Parted blocks p (q - 1 + i)
      go zero l z = let d : q - 1 ≡ q - 1 + 0 = omega arith in subst (Parted blocks p) d (n (zero_bit t (sym (lo ∙ b) ∙ z)))
      go (suc i) b z =
          let d : q + i ≡ q - 1 + suc i = omega arith in
          let j : i + 1 ≡ suc i = omega arith in
          subst (Parted blocks p) d (m.each i (omega arith) (sym (hi i) ∙ ap (λ (k : ℕ). bit k r) j ∙ z))

-- ---- all words
pub zeros_apart : {blocks masks : List ℕ} → Masks blocks masks → ((k : ℕ) → k < 24 → word masks k ≡ 0) → Disjoint blocks
zeros_apart m f n e d h p q x y = (m.each p q x.number y.number (ap (bit q) (f p x.number) ∙ bit_zero q)).parted n e d h x y
