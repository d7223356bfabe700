-- The words of a row and the first end: their bits are those of the marks near its mark.
use mathlib.Core.Path.{◌≡◌, sym, ap, ◌∙◌, subst}
use mathlib.Core.Logic.{◌⊎◌, inl, inr}
use mathlib.Core.Bool.{Bool, true, false, cond}
use mathlib.Core.List.{List}
use Prim.Native.Nat.{ℕ, ◌+◌, ◌*◌, ◌/◌, ◌%◌, ◌^◌, ◌<◌, ◌≤◌}
use native.Mathlib.Decide.{dec_lt}
use native.Mathlib.Omega.{arith}
use borrow.Author.Tests.{lt-ltb, le-ltb}
use Rattle.geometry.specs.Words.{word}
use Rattle.bits.specs.inner.Bits.{bit}
use Rattle.bits.proofs.Counting.{bit_zero, bit_low}
use Rattle.adjacency.specs.inner.Adjacent.{near_bit}
use Rattle.search.specs.inner.Parts.{Marked, near_base, NearBy, NearWord}
use Rattle.row_search.specs.inner.Rows.{told_bit, ByRows, Tidy, near_word}
use Rattle.row_search.proofs.Told.{told_corner, told_end, told_ends, told_small}

-- v is near s by word q: a corner of the row, or the first end
abbrev pub RowNear : List ℕ → Bool → ℕ → ℕ → ℕ → ℕ → Type 0
RowNear rows facing s first q v = ((q < 3) × (near_bit rows s v ≡ 1) × (64 * q ≤ v) × (v < 64 * q + 64)) ⊎ ((q ≡ 3) × (v ≡ first) × ByRows rows facing first s)

-- the four words, and the marks of their lowest bits
module _ (rows : List ℕ) (facing : Bool) (first s q : ℕ) where
  pub row_word : q < 3 → word rows (3 * s + q) ≡ near_word rows facing first s q
  unfolding near_word
  row_word h = rw (lt-ltb q 3 h)

  first_word : 3 ≤ q → told_bit rows facing first s ≡ near_word rows facing first s q
  unfolding near_word
  first_word h = rw (le-ltb q 3 h)

  pub corner_word : 3 ≤ q → 192 ≤ first → s < 192 → near_bit rows first s ≡ near_word rows facing first s q
  corner_word h a b = sym (told_end rows facing first s a b) ∙ first_word h

  pub facing_word : 3 ≤ q → 192 ≤ first → 192 ≤ s → facing ≡ true → 1 ≡ near_word rows facing first s q
  facing_word h a b e = sym (told_ends rows facing first s a b ∙ ap (λ (f : Bool). cond f 1 0) e) ∙ first_word h

  pub no_word : 3 ≤ q → 192 ≤ first → 192 ≤ s → facing ≡ false → 0 ≡ near_word rows facing first s q
  no_word h a b e = sym (told_ends rows facing first s a b ∙ ap (λ (f : Bool). cond f 1 0) e) ∙ first_word h

pub row_base : (first q : ℕ) → q < 3 → 64 * q ≡ near_base first q
unfolding near_base
row_base first q h = rw (lt-ltb q 3 h)

pub first_base : (first q : ℕ) → 3 ≤ q → first ≡ near_base first q
unfolding near_base
first_base first q h = rw (le-ltb q 3 h)

bit_one : bit 0 1 ≡ 1
unfolding bit
bit_one = omega arith

-- bit v of row s, by its word
bit_of : (rows : List ℕ) (s q i v : ℕ) → i < 64 → 64 * q + i ≡ v → near_bit rows s v ≡ bit i (word rows (3 * s + q))
bit_of rows s q i v l e =
    let a : v % 64 ≡ i = omega arith in
    let b : v / 64 ≡ q = omega arith in
    rw (a, b)

-- a word's bits are those of the marks near s by it
module _ (rows : List ℕ) (facing : Bool) (s : ℕ) {first q w base : ℕ} (low : w < 2 ^ 64) (a : w ≡ near_word rows facing first s q) (b : base ≡ near_base first q) where
  pub marked_near : q < 4 → (v : ℕ) → Marked w base v → RowNear rows facing s first q v
  marked_near l v m = elim (dec_lt q 3) [ yes h ↦ inl (in_row h) | no h ↦ inr (the_first (omega arith)) ]
    where
      in_row : q < 3 → (q < 3) × (near_bit rows s v ≡ 1) × (64 * q ≤ v) × (v < 64 * q + 64)
      in_row h =
          let k = row_base first q h in
          let i = bit_low 64 w m.at low m.set in
          let e : 64 * q + m.at ≡ v = omega (arith, m.is) in
          (h, bit_of rows s q m.at v i e ∙ ap (bit m.at) (row_word rows facing first s q h ∙ sym a) ∙ m.set, omega arith, omega arith)

      the_first : 3 ≤ q → (q ≡ 3) × (v ≡ first) × ByRows rows facing first s
      the_first h =
          let t : w ≡ told_bit rows facing first s = a ∙ sym (first_word rows facing first s q h) in
          let z = bit_low 1 w m.at (omega (arith, told_small rows facing first s)) m.set in
          let o : w ≡ 0 → ⊥ = λ o. omega (arith, m.set, ap (bit m.at) o, bit_zero m.at) in
          (omega arith, omega (arith, m.is, first_base first q h), omega (arith, told_small rows facing first s, o))

  pub near_marked : (v : ℕ) → RowNear rows facing s first q v → Marked w base v
  near_marked v (inl n) =
      let k = row_base first q n.0 in
      let e : 64 * q + v % 64 ≡ v = omega (arith, n.2, n.3) in
      record { at = v % 64; is = omega arith; set = ap (bit (v % 64)) (a ∙ sym (row_word rows facing first s q n.0)) ∙ sym (bit_of rows s q (v % 64) v (omega arith) e) ∙ n.1 }
  near_marked v (inr n) =
      let h : 3 ≤ q = omega (arith, n.0) in
      record { at = 0; is = omega (arith, n.1, first_base first q h); set = ap (bit 0) (a ∙ sym (first_word rows facing first s q h) ∙ n.2) ∙ bit_one }

  pub near_told : {blocks : List ℕ} → Tidy blocks rows → s < 240 → q < 4 → NearWord blocks (ByRows rows facing) first s q w
  near_told {blocks} t l k =
      record {
        only = λ v m. to v (marked_near k v (subst (λ (x : ℕ). Marked w x v) (sym b) m));
        all = λ v n. subst (λ (x : ℕ). Marked w x v) b (near_marked v (from v n));
      }
    where
      to : (v : ℕ) → RowNear rows facing s first q v → NearBy blocks (ByRows rows facing) s first q v
      to v (inl m) =
          let h : v < 192 = omega (arith, m.0, m.3) in
          let c = t.each s v l h m.1 in
          inl (m.0, record { present = c.0; differ = c.1; clear = told_corner rows facing v s h ∙ m.1 }, m.2, m.3)
      to v (inr m) = inr m

      from : (v : ℕ) → NearBy blocks (ByRows rows facing) s first q v → RowNear rows facing s first q v
      from v (inl n) = let h : v < 192 = omega (arith, n.0, n.3) in inl (n.0, sym (told_corner rows facing v s h) ∙ n.1.clear, n.2, n.3)
      from v (inr n) = inr n
