-- Which blocks a straight may touch, and its byte.
use mathlib.Core.Path.{◌≡◌, refl, sym, ap, ◌∙◌, subst}
use mathlib.Core.Bool.{Bool, true, false}
use mathlib.Core.List.{List}
use mathlib.Core.Logic.{◌⊎◌, inl, inr, ⊎_elim}
use Prim.Native.Nat.{ℕ, zero, suc, ◌+◌, ◌*◌, ◌/◌, ◌^◌, ◌<◌, ◌≤◌, max}
use native.Mathlib.Nat.{le-max_left, le-max_right, pow-suc, div-div-eq-div-mul}
use native.Mathlib.Decide.{dec_lt}
use native.Mathlib.Omega.{arith}
use lib.Bits.{bit_and, bit_or, and_le_r}
use lib.Dec.{eqb}
use lib.IntN.{ℤ, pos}
use lib.Signed.{◌<ℤ◌, ◌≤ℤ◌}
use borrow.Author.Tests.{eqb-true}
use Rattle.std.specs.Prelude.{None}
use Rattle.lists.specs.Lists.{all_below}
use Rattle.lists.specs.inner.Tells.{Tells}
use Rattle.lists.proofs.Below.{all_at}
use Rattle.bits.specs.inner.Bits.{bit}
use Rattle.bits.proofs.Counting.{bit_and_lem, bit_or_lem, bit_small}
use Rattle.geometry.specs.Words.{Point, word, block_words, corners}
use Rattle.geometry.specs.Obstruction.{side_turn}
use Rattle.geometry.proofs.Signed.{◌⊖◌, diff, undiff, nonpos, le-⊖, below_or_not}
use Rattle.seams.specs.Seam.{Shared, Disjoint}
use Rattle.seams.specs.inner.Reach.{On, Touched}
use Rattle.seams.proofs.Closed.{negative, swap, on_neither}
use Rattle.seams.proofs.Seams.{disjoint_unshared}
use Rattle.seam_search.specs.inner.Masks.{TouchedIn}
use Rattle.tables.specs.Tables.{stored, place_of}
use Rattle.codes.specs.inner.Codes.{CodesAre, Coded, Looked}
use Rattle.codes.proofs.Coded.{beside_side}
use Rattle.codes.proofs.Hiding.{codes_are}
use Rattle.code_table.specs.inner.Lines.{PlacesOf}
use Rattle.alignments.specs.inner.Lined.{OffFrom, Unheld, WordSays, LinesOf}
use Rattle.alignments.proofs.Marking.{below_zero}
use Rattle.visibility.specs.Visibility.{Unhidden}
use Rattle.visibility.specs.inner.Bytes.{StraightIs, visible, between}
use Rattle.block_bytes.specs.inner.Aids.{TouchedWord, LinedUp}

-- ---- the word
all_ones : all_below 24 (λ n. eqb (bit n 16777215) 1) ≡ true
unfolding all_below bit
all_ones = refl

or_none : (n a b : ℕ) → bit n (bit_or a b) ≡ 0 → (bit n a ≡ 0) × (bit n b ≡ 0)
or_none n a b e =
    let m : max (bit n a) (bit n b) ≡ 0 = sym (bit_or_lem n a b) ∙ e in
    (omega (arith, le-max_left (bit n a) (bit n b)), omega (arith, le-max_right (bit n a) (bit n b)))

and_none : (n a b : ℕ) → bit n (bit_and a b) ≡ 0 → (bit n a ≡ 0) ⊎ (bit n b ≡ 0)
and_none n a b e =
    elim (dec_lt 0 (bit n a)) [
      | yes h ↦ elim (dec_lt 0 (bit n b)) [ yes l ↦ absurd (omega (arith, bit_and_lem n a b, bit_small n a, bit_small n b)) | no l ↦ inr (omega arith) ]
      | no h ↦ inl (omega arith)
    ]

bit_above : (k n a : ℕ) → bit n (a / 2 ^ k) ≡ bit (n + k) a
unfolding bit
bit_above zero n a =
    let q : a / 1 ≡ a = omega arith in
    let r : n ≡ n + 0 = omega arith in
    ap (bit n) q ∙ ap (λ (i : ℕ). bit i a) r
bit_above (suc k) n a =
    let q : a / 2 ^ suc k ≡ a / 2 / 2 ^ k = ap (λ (d : ℕ). a / d) (two k) ∙ sym (div-div-eq-div-mul a 2 (2 ^ k)) in
    let r : suc (n + k) ≡ n + suc k = omega arith in
    ap (bit n) q ∙ bit_above k n (a / 2) ∙ ap (λ (i : ℕ). bit i a) r
  where
    two : (k : ℕ) → 2 ^ suc k ≡ 2 * 2 ^ k
    two k = omega (arith, pow-suc 2 k)

module _ (o f l : ℕ) where
  abbrev whole : ℕ
  whole = bit_or (bit_or o (bit_and f l)) (bit_or f l / 2 ^ 24)

  module _ (n : ℕ) (h : n < 24) (e : bit n (bit_and whole 16777215) ≡ 0) where
    low : bit n whole ≡ 0
    low =
        let one : bit n 16777215 ≡ 1 = eqb-true (bit n 16777215) 1 (all_at (λ n. eqb (bit n 16777215) 1) 24 n all_ones h) in
        omega (arith, bit_and_lem n whole 16777215, bit_small n whole)

    both_low : (bit n o ≡ 0) × (bit n (bit_and f l) ≡ 0)
    both_low = or_none n o (bit_and f l) (or_none n (bit_or o (bit_and f l)) (bit_or f l / 2 ^ 24) low).0

    above : (bit (n + 24) f ≡ 0) × (bit (n + 24) l ≡ 0)
    above = or_none (n + 24) f l (sym (bit_above 24 n (bit_or f l)) ∙ (or_none n (bit_or o (bit_and f l)) (bit_or f l / 2 ^ 24) low).1)

  pub touched_word : TouchedWord o f l (bit_and whole 16777215)
  touched_word =
      record {
        small = omega (arith, and_le_r whole 16777215);
        seen = λ n h e. (both_low n h e).0;
        along = λ n h e. and_none n f l (both_low n h e).1;
        ends = λ n h e. above n h e;
      }

-- ---- a block that the straight is beside, not along a side, and that neither end belongs to, has no place of it
alone_ℕ : (u s a b : ℕ) → u * suc a + s * b ≤ 0 → u ≡ 0
alone_ℕ zero s a b h = refl
alone_ℕ (suc u) s a b h = absurd (omega arith)

-- one end is strictly right of a side and the other not left of it: the place is the other end
other_end : (u s : ℕ) (x y : ℤ) → x <ℤ pos 0 → y ≤ℤ pos 0 → On u s x y → u ≡ 0
other_end u s x y x₀ y₀ =
    negative (λ x. On u s x y → u ≡ 0) (λ a. nonpos (λ y. On u s (0 ⊖ suc a) y → u ≡ 0) (λ b. simp diff (λ h. alone_ℕ u s a b (omega (arith, le-⊖ _ _ _ _ h)))) y y₀) x x₀

end_ℕ : (s b : ℕ) → 1 ≤ s → s * suc b ≤ 0 → ⊥
end_ℕ s b h k = omega arith

at_end : (s : ℕ) (x y : ℤ) → 1 ≤ s → On 0 s x y → pos 0 ≤ℤ y
at_end s x y h o = ⊎_elim (λ n. absurd (never n o)) (λ n. n) (below_or_not y (pos 0))
  where
    never : y <ℤ pos 0 → On 0 s x y → ⊥
    never n =
        negative (λ y. On 0 s x y → ⊥) (λ b. undiff (λ x. On 0 s x (0 ⊖ suc b) → ⊥) (λ a a'. simp diff (λ k. end_ℕ s b h (omega (arith, le-⊖ _ _ _ _ k)))) x) y n

module _ {ws : List ℕ} (a b : Point) (k : ℕ) (h : k < word ws 0) (x : side_turn (corners ws) a k ≤ℤ pos 0) (y : side_turn (corners ws) b k ≤ℤ pos 0) where
  one_right : OffFrom ws a 0 → Unheld ws b → (u s : ℕ) → 1 ≤ u + s → Touched ws a b u s → ⊥
  one_right p q u s w t =
      let x₀ = below_zero _ x (p k (omega arith) h) in
      let o = t.around k h in
      let z = other_end u s (side_turn (corners ws) a k) (side_turn (corners ws) b k) x₀ y o in
      on_neither u s (side_turn (corners ws) a k) (side_turn (corners ws) b k) w x₀
      (below_zero _ y (λ e. q k h e (λ j l. at_end s (side_turn (corners ws) a j) (side_turn (corners ws) b j) (omega arith) (rw z at (t.around j l))))) o

untouched : {ws : List ℕ} {ci cj : ℕ} {a b : Point} → CodesAre ws ci cj a b → (bit_and ci cj ≡ 0 → ⊥) → OffFrom ws a 0 ⊎ OffFrom ws b 0 → Unheld ws a → Unheld ws b
    → (u s : ℕ) → 1 ≤ u + s → Touched ws a b u s → ⊥
untouched {ws} {ci} {cj} {a} {b} d f g p q u s w t =
    let k = beside_side d f t.stands in
    ⊎_elim
    (λ x. one_right a b k.0 k.1 k.2 k.3 x q u s w t)
    (λ y. one_right b a k.0 k.1 k.3 k.2 y p s u (omega arith) (back t))
    g
  where
    back : Touched ws a b u s → Touched ws b a s u
    back t = record { stands = t.stands; around = λ k l. swap u s (side_turn (corners ws) a k) (side_turn (corners ws) b k) (t.around k l) }

module _ (blocks runs codes masks lines : List ℕ) (i j : ℕ) (a b : Point) (o w : ℕ) (c : Coded (stored blocks runs) codes) (l : LinedUp (stored blocks runs) masks lines)
    (hi : i < 240) (hj : j < 240) (k : Looked blocks codes i j a b None o) (p : a ≡ place_of (stored blocks runs) i) (q : b ≡ place_of (stored blocks runs) j)
    (t : TouchedWord o (word lines i) (word lines j) w) where
  pub touched_in : TouchedIn blocks masks a b w
  touched_in = record { each = each }
    where
      each : (n : ℕ) → n < 24 → bit n w ≡ 0 → (word masks n ≡ 0) ⊎ ((u s : ℕ) → 1 ≤ u + s → Touched (block_words blocks n) a b u s → ⊥)
      each n h z =
          let v = l.each n i h hi in
          let w = l.each n j h hj in
          let e = t.ends n h z in
          ⊎_elim (λ f. ⊎_elim (λ m. inl m)
          (λ g. ⊎_elim (λ m. inl m)
          (λ x. ⊎_elim (λ m. inl m)
          (λ y. inr (untouched (codes_are blocks runs codes c n i j h hi hj a b p q) f g (rw p x) (rw q y)))
          (w.held e.1))
          (v.held e.0))
          (off v w (t.along n h z)))
          (λ m. inr m)
          (k.rest n h (t.seen n h z))
        where
          off : WordSays (block_words blocks n) (place_of (stored blocks runs) i) (word masks n) n (word lines i) → WordSays (block_words blocks n) (place_of (stored blocks runs) j) (word masks n) n (word lines j)
              → (bit n (word lines i) ≡ 0) ⊎ (bit n (word lines j) ≡ 0) → (word masks n ≡ 0) ⊎ (OffFrom (block_words blocks n) a 0 ⊎ OffFrom (block_words blocks n) b 0)
          off v w (inl e) = ⊎_elim (λ m. inl m) (λ x. inr (inl (rw p x))) (v.line e)
          off v w (inr e) = ⊎_elim (λ m. inl m) (λ x. inr (inr (rw q x))) (w.line e)

pub lined_up : (blocks runs east north masks lines : List ℕ) → PlacesOf (stored blocks runs) east north → LinesOf blocks east north masks lines 24 → LinedUp (stored blocks runs) masks lines
lined_up blocks runs east north masks lines p l =
    record { sized = l.sized; each = λ n i h k. subst (λ (x : Point). WordSays (block_words blocks n) x (word masks n) n (word lines i)) (p.each i k) (l.each n i h k) }

-- ---- the byte
module _ (blocks codes : List ℕ) (i j : ℕ) (a b : Point) (o : ℕ) (k : Looked blocks codes i j a b None o) where
  unhidden : Unhidden blocks a b
  unhidden m h x = k.first.none m h x

  pub straight_apart : Disjoint blocks → StraightIs blocks a b 254
  straight_apart d = visible (record { seen = unhidden; unshared = disjoint_unshared blocks a b d }) refl

  module _ (t : Bool) (h : Tells (Shared blocks a b) t) where
    pub straight_seam : t ≡ true → StraightIs blocks a b 253
    straight_seam e = between (record { seen = unhidden; shared = h.yes' e }) refl

    pub straight_clear : t ≡ false → StraightIs blocks a b 254
    straight_clear e = visible (record { seen = unhidden; unshared = h.no' e }) refl
