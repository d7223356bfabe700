-- Records that exist one by one make a table: they stand in it one behind the other.
use mathlib.Core.Path.{◌≡◌, refl, sym, ap, ◌∙◌}
use mathlib.Core.List.{List, [], ◌∷◌, ◌++◌}
use Prim.Native.Nat.{ℕ, zero, suc, ◌+◌, ◌*◌, ◌<◌, ◌≤◌}
use native.Mathlib.Nat.{add-zero, mul-zero, mul-suc}
use native.Mathlib.Decide.{dec_lt}
use native.Mathlib.Numerals.{add-one}
use native.Mathlib.Omega.{arith}
use lib.ListN.{length, take, drop, length-append, length-drop}
use lib.Seq.{take-length, take-append-le, drop-append-le, drop_at}
use Rattle.geometry.specs.Words.{word}
use Rattle.tables.specs.Tables.{pair_index}
use Rattle.tables.proofs.Pairs.{tri, tri_zero, tri_suc, tri_240, pair_tri}
use Rattle.tables.proofs.Splices.{part_word}

-- n records behind one another: record k has P k, and is the `size k` words from word `start k` on
pub record Table (size start : ℕ → ℕ) (P : ℕ → List ℕ → Type 0) (n : ℕ) : Type 0 where
  pub words : List ℕ
  pub sized : length words ≡ start n
  pub each : (k : ℕ) → k < n → P k (take (size k) (drop (start k) words))

module _ (size start : ℕ → ℕ) (first : start 0 ≡ 0) (next : (k : ℕ) → start (suc k) ≡ start k + size k) (P : ℕ → List ℕ → Type 0) where
  -- a record ends where a later one begins, or before
  ends_before : (k n : ℕ) → k < n → start k + size k ≤ start n
  ends_before k zero l = omega arith
  ends_before k (suc n) l =
      elim (dec_lt k n) [
        | yes h ↦ omega (arith, ends_before k n h, next n)
        | no h ↦ let e : k ≡ n = omega arith in omega (arith, ap start e, ap size e, next n)
      ]

  -- one more record behind the others
  table_more : (n : ℕ) → Table size start P n → (ws : List ℕ) → P n ws → length ws ≡ size n → Table size start P (suc n)
  table_more n t ws p e =
      record {
        words = t.words ++ ws;
        sized = simp (length-append, t.sized, e) (sym (next n));
        each = λ k l. at k l (dec_lt k n);
      }
    where
      at : (k : ℕ) → k < suc n → Dec (k < n) → P k (take (size k) (drop (start k) (t.words ++ ws)))
      at k l (yes h) =
          let b : start k + size k ≤ length t.words = omega (arith, ends_before k n h, t.sized) in
          let c : size k ≤ length (drop (start k) t.words) = simp length-drop (omega arith) in
          rw (drop-append-le (start k) t.words ws (omega arith), take-append-le (size k) (drop (start k) t.words) ws c) (t.each k h)
      at k l (no h) =
          let q : k ≡ n = omega arith in
          rw (q, drop_at t.words ws (start n) t.sized, ← e, take-length ws) p

  table_exists : (n : ℕ) → ((k : ℕ) → k < n → (ws : List ℕ) × P k ws × (length ws ≡ size k)) → Table size start P n
  table_exists zero f = record { words = []; sized = sym first; each = λ k l. absurd (omega arith) }
  table_exists (suc n) f =
      let r = f n (omega arith) in
      table_more n (table_exists n (λ k l. f k (omega arith))) r.0 r.1 r.2

-- records of w words each
abbrev pub RecordTable : ℕ → (ℕ → List ℕ → Type 0) → ℕ → Type 0
RecordTable w P n = Table (λ k. w) (λ k. w * k) P n

pub records_exist : (w : ℕ) (P : ℕ → List ℕ → Type 0) (n : ℕ) → ((k : ℕ) → k < n → (ws : List ℕ) × P k ws × (length ws ≡ w)) → RecordTable w P n
records_exist w = table_exists (λ k. w) (λ k. w * k) (mul-zero w) (mul-suc w)

-- n bytes in a row
row_exists : (P : ℕ → ℕ → Type 0) → ((i : ℕ) → (b : ℕ) × P i b) → (n : ℕ) → (ws : List ℕ) × ((i : ℕ) → i < n → P i (word ws i)) × (length ws ≡ n)
row_exists P f n = (t.words, λ i h. rw (part_word t.words i 1 0 (omega arith), add-zero i) at (t.each i h), t.sized)
  where
    t : Table (λ i. 1) (λ i. i) (λ i ws. P i (word ws 0)) n
    t = table_exists (λ i. 1) (λ i. i) refl (λ i. sym (add-one i)) _ n (λ i h. ((f i).0 ∷ [], (f i).1, refl))

-- a table of pairs: row j is the bytes of marks i < j, and begins at `tri j`
pub record PairTable (P : ℕ → ℕ → ℕ → Type 0) : Type 0 where
  pub words : List ℕ
  pub sized : length words ≡ 28680
  pub each : (i j : ℕ) → i < j → j < 240 → P i j (word words (pair_index i j))

pub pairs_exist : (P : ℕ → ℕ → ℕ → Type 0) → ((i j : ℕ) → (b : ℕ) × P i j b) → PairTable P
pairs_exist P f =
    record {
      words = t.words;
      sized = t.sized ∙ tri_240;
      each = λ i j h l. rw (pair_tri i j, ← part_word t.words (tri j) j i h) (t.each j l i h);
    }
  where
    t : Table (λ j. j) tri (λ j ws. (i : ℕ) → i < j → P i j (word ws i)) 240
    t = table_exists (λ j. j) tri tri_zero tri_suc _ 240 (λ j l. row_exists (λ i. P i j) (λ i. f i j) j)
