-- A settled mark's row and the first end, relaxed word by word.
use mathlib.Core.Path.{◌≡◌, sym, ap, ◌∙◌, subst}
use mathlib.Core.Logic.{◌⊎◌, inl, inr}
use mathlib.Core.List.{List}
use Prim.Native.Nat.{ℕ, ◌+◌, ◌*◌, ◌-◌, ◌/◌, ◌%◌, ◌^◌, ◌<◌, ◌≤◌}
use native.Mathlib.Decide.{ℕ_discrete, dec_lt}
use native.Mathlib.Omega.{arith}
use borrow.Author.Tests.{lt-ltb, le-ltb, ne_eqb}
use lib.ListN.{length, take, drop, set, length-set}
use lib.Seq.{get_or-set_same, get_or-set_other}
use Rattle.geometry.specs.Words.{word}
use Rattle.bits.specs.inner.Bits.{bit}
use Rattle.bits.proofs.Counting.{bit_zero, bit_low}
use Rattle.tables.specs.Tables.{pair_byte}
use Rattle.tables.proofs.Splices.{part_word, part_length}
use Rattle.adjacency.specs.inner.Adjacent.{Adjacent, Shows, Rows}
use Rattle.search.specs.Network.{ByBytes}
use Rattle.search.specs.inner.Parts.{Here, Bend, Bends, Parted, Passed, Marked, Row, near_word, near_base, Seen, NearBy, NearWord}
use Rattle.search.proofs.Network.{corner_below}
use Rattle.search.proofs.Parts.{passed_none, passed_both, passed_under}

-- the words of a row, written one by one
pub row_none : (blocks pairs row : List ℕ) (v : ℕ) → length row ≡ 3 → Row blocks pairs row v 0
row_none blocks pairs row v l = record { sized = l; each = λ q h. absurd (omega arith) }

pub row_next : (blocks pairs row : List ℕ) (v n w : ℕ) → Row blocks pairs row v n → n < 3 → ((i : ℕ) → i < 64 → Shows (Adjacent blocks pairs v (64 * n + i)) (bit i w))
    → Row blocks pairs (set row n w) v (n + 1)
row_next blocks pairs row v n w r l h = record { sized = length-set row n w ∙ r.sized; each = λ q b. at q b (dec_lt q n) }
  where
    At : ℕ → ℕ → Type 0
    At q x = (i : ℕ) → i < 64 → Shows (Adjacent blocks pairs v (64 * q + i)) (bit i x)

    at : (q : ℕ) → q < n + 1 → Dec (q < n) → At q (word (set row n w) q)
    at q b (yes g) = subst (At q) (sym (get_or-set_other row n q w 0 (omega arith))) (r.each q g)
    at q b (no g) =
        let e : n ≡ q = omega arith in
        subst (λ (j : ℕ). At j (word (set row n w) j)) e (subst (At n) (sym (get_or-set_same row n w 0 (omega (arith, r.sized)))) h)

-- the row of a corner stands in the rows of all
pub row_lent : (blocks pairs adj : List ℕ) (s : ℕ) → Rows blocks pairs adj 576 → s < 192 → Row blocks pairs (take (3 * s + 3 - 3 * s) (drop (3 * s) adj)) s 3
row_lent blocks pairs adj s r l =
    let e : 3 ≡ 3 * s + 3 - 3 * s = omega arith in
    subst (λ (k : ℕ). Row blocks pairs (take k (drop (3 * s) adj)) s 3) e
    (record { sized = part_length adj (3 * s) 3 (omega (arith, r.sized)); each = each })
  where
    each : (q : ℕ) → q < 3 → (i : ℕ) → i < 64 → Shows (Adjacent blocks pairs s (64 * q + i)) (bit i (word (take 3 (drop (3 * s) adj)) q))
    each q h i b =
        let d : (3 * s + q) / 3 ≡ s = omega arith in
        let m : (3 * s + q) % 3 ≡ q = omega arith in
        let a = r.each (3 * s + q) (omega arith) i b in
        let a₁ = subst (λ (k : ℕ). Shows (Adjacent blocks pairs k (64 * ((3 * s + q) % 3) + i)) (bit i (word adj (3 * s + q)))) d a in
        let a₂ = subst (λ (k : ℕ). Shows (Adjacent blocks pairs s (64 * k + i)) (bit i (word adj (3 * s + q)))) m a₁ in
        subst (λ (k : ℕ). Shows (Adjacent blocks pairs s (64 * q + i)) (bit i k)) (sym (part_word adj (3 * s) 3 q h)) a₂

-- the four words, and the marks of their lowest bits
module _ (pairs row : List ℕ) (first s q : ℕ) where
  pub row_word : q < 3 → word row q ≡ near_word pairs row first s q
  unfolding near_word
  row_word h = rw (lt-ltb q 3 h)

  pub first_word : 3 ≤ q → pair_byte pairs first s ≡ 254 → 1 ≡ near_word pairs row first s q
  unfolding near_word
  first_word h e = rw (le-ltb q 3 h, e)

  pub no_word : 3 ≤ q → (pair_byte pairs first s ≡ 254 → ⊥) → 0 ≡ near_word pairs row first s q
  unfolding near_word
  no_word h e = rw (le-ltb q 3 h, ne_eqb (pair_byte pairs first s) 254 e)

pub row_base : (first q : ℕ) → q < 3 → 64 * q ≡ near_base first q
unfolding near_base
row_base first q h = rw (lt-ltb q 3 h)

pub first_base : (first q : ℕ) → 3 ≤ q → first ≡ near_base first q
unfolding near_base
first_base first q h = rw (le-ltb q 3 h)

bit_one : bit 0 1 ≡ 1
unfolding bit
bit_one = omega arith

-- a word's bits are those of the marks near s by it
module _ {blocks : List ℕ} (pairs row : List ℕ) {s first q : ℕ} (r : q < 3 → (i : ℕ) → i < 64 → Shows (Adjacent blocks pairs s (64 * q + i)) (bit i (word row q))) {w base : ℕ} (low : w < 2 ^ 64) (a : w ≡ near_word pairs row first s q) (b : base ≡ near_base first q) where
  pub marked_near : q < 4 → (v : ℕ) → Marked w base v → NearBy blocks (ByBytes pairs) s first q v
  marked_near l v m = elim (dec_lt q 3) [ yes h ↦ inl (in_row h) | no h ↦ let f = the_first h (ℕ_discrete (pair_byte pairs first s) 254) in inr (omega arith, f.0, f.1) ]
    where
      in_row : q < 3 → (q < 3) × Adjacent blocks pairs s v × (64 * q ≤ v) × (v < 64 * q + 64)
      in_row h =
          let k = row_base first q h in
          let i = bit_low 64 w m.at low m.set in
          let e : 64 * q + m.at ≡ v = omega (arith, m.is) in
          let x : bit m.at (word row q) ≡ 1 = ap (bit m.at) (row_word pairs row first s q h ∙ sym a) ∙ m.set in
          (h, subst (Adjacent blocks pairs s) e ((r h m.at i).yes' x), omega arith, omega arith)

      the_first : (q < 3 → ⊥) → Dec (pair_byte pairs first s ≡ 254) → (v ≡ first) × (pair_byte pairs first s ≡ 254)
      the_first h (yes e) =
          let o : w ≡ 1 = a ∙ sym (first_word pairs row first s q (omega arith) e) in
          let z = bit_low 1 w m.at (omega arith) m.set in
          (omega (arith, m.is, first_base first q (omega arith)), e)
      the_first h (no e) =
          let o : w ≡ 0 = a ∙ sym (no_word pairs row first s q (omega arith) e) in
          absurd (omega (arith, m.set, ap (bit m.at) o, bit_zero m.at))

  pub near_marked : (v : ℕ) → NearBy blocks (ByBytes pairs) s first q v → Marked w base v
  near_marked v (inl n) =
      let k = row_base first q n.0 in
      let e : 64 * q + (v - 64 * q) ≡ v = omega (arith, n.2) in
      let x = (r n.0 (v - 64 * q) (omega (arith, n.2, n.3))).no' (subst (Adjacent blocks pairs s) (sym e) n.1) in
      record { at = v - 64 * q; is = omega (arith, n.2); set = ap (bit (v - 64 * q)) (a ∙ sym (row_word pairs row first s q n.0)) ∙ x }
  near_marked v (inr n) =
      let h : 3 ≤ q = omega (arith, n.0) in
      record { at = 0; is = omega (arith, n.1, first_base first q h); set = ap (bit 0) (a ∙ sym (first_word pairs row first s q h n.2)) ∙ bit_one }

  pub near_told : q < 4 → NearWord blocks (ByBytes pairs) first s q w
  near_told l =
      record {
        only = λ v m. marked_near l v (subst (λ (k : ℕ). Marked w k v) (sym b) m);
        all = λ v n. subst (λ (k : ℕ). Marked w k v) b (near_marked v n);
      }

-- v is near s by a word before q
pub record NearBefore (blocks : List ℕ) (Clear : ℕ → ℕ → Type 0) (s first q v : ℕ) : Type 0 where
  pub word' : ℕ
  pub before : word' < q
  pub near : NearBy blocks Clear s first word' v

-- the marks near s are relaxed word by word
module _ {bound most : ℕ → ℕ} {blocks : List ℕ} {Clear : ℕ → ℕ → Type 0} {s first : ℕ} where
  pub near_none : {W S K T : List ℕ} {u n : ℕ} → Parted bound W S K T u n → Passed bound most (NearBefore blocks Clear s first 0) W S K W S K T u n
  near_none p = passed_none p (λ v o m. omega (arith, m.before))

  module _ {W S K W' S' K' T' : List ℕ} {u n q : ℕ} (x : Passed bound most (NearBefore blocks Clear s first q) W S K W' S' K' T' u n) where
    pub near_next : {w base : ℕ} {W'' S'' K'' T'' : List ℕ} {u' : ℕ} → base ≡ near_base first q → NearWord blocks Clear first s q w
        → Passed bound most (Marked w base) W' S' K' W'' S'' K'' T'' u' n → Passed bound most (NearBefore blocks Clear s first (q + 1)) W S K W'' S'' K'' T'' u' n
    near_next {w} {base} b r y = passed_under to (λ v o m. from v m (dec_lt m.word' q)) (passed_both x y)
      where
        to : (v : ℕ) → NearBefore blocks Clear s first q v ⊎ Marked w base v → NearBefore blocks Clear s first (q + 1) v
        to v (inl m) = record { word' = m.word'; before = omega (arith, m.before); near = m.near }
        to v (inr m) = record { word' = q; before = omega arith; near = r.only v (subst (λ (k : ℕ). Marked w k v) b m) }

        from : (v : ℕ) → (m : NearBefore blocks Clear s first (q + 1) v) → Dec (m.word' < q) → NearBefore blocks Clear s first q v ⊎ Marked w base v
        from v m (yes h) = inl (record { word' = m.word'; before = h; near = m.near })
        from v m (no h) =
            let e : m.word' ≡ q = omega (arith, m.before) in
            inr (subst (λ (k : ℕ). Marked w k v) (sym b) (r.all v (subst (λ (k : ℕ). NearBy blocks Clear s first k v) e m.near)))

    -- all four words are done
    pub near_all : 4 ≤ q → (first ≡ s → ⊥) → Bends blocks first W S n → Passed bound most (Seen Clear s) W S K W' S' K' T' u n
    near_all l ne d = passed_under (λ v m. to v m.near) (λ v o e. from v e (d.only v o)) x
      where
        to : {k : ℕ} (v : ℕ) → NearBy blocks Clear s first k v → Seen Clear s v
        to v (inl m) = (m.1.differ, m.1.clear)
        to v (inr m) = subst (Seen Clear s) (sym m.1) (ne, m.2)

        from : (v : ℕ) → Seen Clear s v → Bend blocks first v → NearBefore blocks Clear s first q v
        from v e (inl f) = record { word' = 3; before = omega arith; near = inr (omega arith, f, subst (λ (k : ℕ). Clear k s) f e.1) }
        from v e (inr c) =
            let h = corner_below blocks v c in
            record { word' = v / 64; before = omega arith; near = inl (omega arith, record { present = c; differ = e.0; clear = e.1 }, omega arith, omega arith) }

-- what word q asks of the list
pub near_here : (Clear : ℕ → ℕ → Type 0) {blocks W S : List ℕ} {s first n q : ℕ} → Bends blocks first W S n → first < 240 → (v : ℕ) → NearBy blocks Clear s first q v → (v < 240) × Here W S v
near_here Clear {blocks} d l v (inl m) = (omega (arith, corner_below blocks v m.1.present), d.all v (inr m.1.present))
near_here Clear d l v (inr m) = (omega (arith, m.1), d.all v (inl m.1))
