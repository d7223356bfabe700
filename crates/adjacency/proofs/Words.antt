-- The word of one mark, built from the highest bit down.
use mathlib.Core.Path.{◌≡◌, refl, sym, ap, subst, ◌∙◌}
use mathlib.Core.Bool.{Bool, true, false}
use mathlib.Core.List.{List}
use Prim.Native.Nat.{ℕ, zero, suc, ◌+◌, ◌*◌, ◌-◌, ◌/◌, ◌%◌, ◌^◌, ◌<◌, ◌≤◌}
use native.Mathlib.Nat.{pow-suc}
use native.Mathlib.Decide.{dec_lt}
use native.Mathlib.Omega.{arith}
use lib.ListN.{set, length-set}
use lib.Seq.{get_or-set_same, get_or-set_other}
use lib.Pow.{pow_mono}
use Rattle.geometry.specs.Words.{word}
use Rattle.tables.specs.Tables.{is_corner, pair_index, pair_byte}
use Rattle.tables.proofs.Marks.{byte_up}
use Rattle.bits.specs.inner.Bits.{bit}
use Rattle.adjacency.specs.inner.Adjacent.{AdjacentBy, Adjacent, RowsBy, Shows, near_bit}

pub shows_not : (P : Type 0) → (P → ⊥) → Shows P 0
shows_not P h = record { small = omega arith; yes' = λ e. absurd (omega arith); no' = λ p. absurd (h p) }

pub shows : (P : Type 0) → P → Shows P 1
shows P p = record { small = omega arith; yes' = λ e. p; no' = λ x. refl }

-- by a corner's presence, and by a byte
module _ (blocks : List ℕ) (u byte : ℕ) where
  pub clear_none : (byte ≡ 254 → ⊥) → Shows ((is_corner blocks u ≡ true) × (byte ≡ 254)) 0
  clear_none h = shows_not _ (λ p. h p.1)

  pub clear_there : (t : Bool) → byte ≡ 254 → t ≡ is_corner blocks u → t ≡ true → Shows ((is_corner blocks u ≡ true) × (byte ≡ 254)) 1
  clear_there t e q h = shows _ (sym q ∙ h, e)

  pub clear_absent : (t : Bool) → t ≡ is_corner blocks u → t ≡ false → Shows ((is_corner blocks u ≡ true) × (byte ≡ 254)) 0
  clear_absent t q h = shows_not _ (λ p. let g : false ≡ true = sym h ∙ q ∙ p.0 in let z : ◌≡◌ {A = ℕ} 0 1 = cc in omega arith)

-- by the byte of a mark and a corner
module _ (blocks pairs : List ℕ) (v u x : ℕ) where
  pub shows_pair : (byte : ℕ) → (u ≡ v → ⊥) → byte ≡ pair_byte pairs u v → Shows ((is_corner blocks u ≡ true) × (byte ≡ 254)) x → Shows (Adjacent blocks pairs v u) x
  shows_pair byte d e s =
      record {
        small = s.small;
        yes' = λ q. let p = s.yes' q in record { present = p.0; differ = d; clear = sym e ∙ p.1 };
        no' = λ a. s.no' (a.present, e ∙ a.clear);
      }

-- by a byte of the row of a mark above all corners
pub shows_row : (blocks pairs : List ℕ) (v at start k x : ℕ) → start ≡ pair_index at v → Shows ((is_corner blocks (at + k) ≡ true) × (word pairs (start + k) ≡ 254)) x
    → at + k < v → Shows (Adjacent blocks pairs v (at + k)) x
shows_row blocks pairs v at start k x e s l =
    shows_pair blocks pairs v (at + k) x (word pairs (start + k)) (λ q. omega arith) (byte_up pairs (at + k) v (start + k) l (omega arith)) s

-- the bits of w say which of the numbers from 64 q + k on have P
pub record Part (P : ℕ → Type 0) (q k w : ℕ) : Type 0 where
  pub high : k ≤ 64
  pub small : w < 2 ^ (64 - k)
  pub each : (i : ℕ) → i + k < 64 → Shows (P (64 * q + k + i)) (bit i w)

pub part_none : (P : ℕ → Type 0) (q : ℕ) → Part P q 64 0
part_none P q = record { high = omega arith; small = omega arith; each = λ i l. absurd (omega arith) }

module _ (P : ℕ → Type 0) (q k w : ℕ) (p : Part P q k w) (l : 0 < k) where
  pub part_small : w < 9223372036854775808
  part_small = omega (arith, p.small, pow_mono {i = 64 - k} {j = 63} (omega arith))

  pub part_next : (x r : ℕ) → Shows (P (64 * q + (k - 1))) x → bit 0 r ≡ x → ((i : ℕ) → bit (i + 1) r ≡ bit i w) → r ≡ 2 * w + x → Part P q (k - 1) r
  part_next x r s lo hi e =
      record {
        high = omega (arith, p.high);
        small = let d : 64 - (k - 1) ≡ suc (64 - k) = omega (arith, p.high) in omega (arith, p.small, s.small, pow-suc 2 (64 - k), ap (λ (n : ℕ). 2 ^ n) d);
        each = bits;
      }
    where
      bits : (i : ℕ) → i + (k - 1) < 64 → Shows (P (64 * q + (k - 1) + i)) (bit i r)
      bits zero b =
          let d : 64 * q + (k - 1) ≡ 64 * q + (k - 1) + 0 = omega arith in
          subst (λ (u : ℕ). Shows (P u) (bit 0 r)) d (subst (Shows (P (64 * q + (k - 1)))) (sym lo) s)
      bits (suc i) b =
          let d : 64 * q + k + i ≡ 64 * q + (k - 1) + suc i = omega arith in
          let j : i + 1 ≡ suc i = omega arith in
          subst (λ (u : ℕ). Shows (P u) (bit (suc i) r)) d (subst (Shows (P (64 * q + k + i))) (sym (hi i) ∙ ap (λ (n : ℕ). bit n r) j) (p.each i (omega arith)))

pub part_whole : (P : ℕ → Type 0) (q k w : ℕ) → Part P q k w → k ≤ 0 → (i : ℕ) → i < 64 → Shows (P (64 * q + i)) (bit i w)
part_whole P q k w p z i l =
    let d : 64 * q + k + i ≡ 64 * q + i = omega arith in
    subst (λ (u : ℕ). Shows (P u) (bit i w)) d (p.each i (omega arith))

-- one word more of the rows is written
pub rows_next : (blocks : List ℕ) (Clear : ℕ → ℕ → Type 0) (words : ℕ) (adj : List ℕ) (n w : ℕ) → RowsBy blocks Clear words adj n → n < words
    → ((i : ℕ) → i < 64 → Shows (AdjacentBy blocks Clear (n / 3) (64 * (n % 3) + i)) (bit i w)) → RowsBy blocks Clear words (set adj n w) (n + 1)
rows_next blocks Clear words adj n w r l h = record { sized = length-set adj n w ∙ r.sized; each = λ k b. at k b (dec_lt k n) }
  where
    At : ℕ → ℕ → Type 0
    At k x = (i : ℕ) → i < 64 → Shows (AdjacentBy blocks Clear (k / 3) (64 * (k % 3) + i)) (bit i x)

    at : (k : ℕ) → k < n + 1 → Dec (k < n) → At k (word (set adj n w) k)
    at k b (yes g) = subst (At k) (sym (get_or-set_other adj n k w 0 (omega arith))) (r.each k g)
    at k b (no g) =
        let e : n ≡ k = omega arith in
        subst (λ (j : ℕ). At j (word (set adj n w) j)) e (subst (At n) (sym (get_or-set_same adj n w 0 (omega (arith, r.sized)))) h)

-- rows of m marks, read word by word and mark by mark
module _ (P : ℕ → ℕ → Type 0) (rows : List ℕ) (m : ℕ) where
  pub by_marks : ((k : ℕ) → k < 3 * m → (i : ℕ) → i < 64 → Shows (P (k / 3) (64 * (k % 3) + i)) (bit i (word rows k)))
      → (v u : ℕ) → v < m → u < 192 → Shows (P v u) (near_bit rows v u)
  by_marks f v u l h =
      let d : (3 * v + u / 64) / 3 ≡ v = omega arith in
      let e : 64 * ((3 * v + u / 64) % 3) + u % 64 ≡ u = omega arith in
      let y = subst (λ (k : ℕ). Shows (P k (64 * ((3 * v + u / 64) % 3) + u % 64)) (near_bit rows v u)) d (f (3 * v + u / 64) (omega arith) (u % 64) (omega arith)) in
      subst (λ (k : ℕ). Shows (P v k) (near_bit rows v u)) e y

  pub by_words : ((v u : ℕ) → v < m → u < 192 → Shows (P v u) (near_bit rows v u))
      → (k : ℕ) → k < 3 * m → (i : ℕ) → i < 64 → Shows (P (k / 3) (64 * (k % 3) + i)) (bit i (word rows k))
  by_words f k l i b =
      let p : (64 * (k % 3) + i) % 64 ≡ i = omega arith in
      let q : 3 * (k / 3) + (64 * (k % 3) + i) / 64 ≡ k = omega arith in
      let s = f (k / 3) (64 * (k % 3) + i) (omega arith) (omega arith) in
      rw (p, q) at s
