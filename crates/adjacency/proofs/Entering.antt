-- The bytes of the pairs entered in the rows one by one: where the byte of two marks stands, and what one more byte adds.
use mathlib.Core.Path.{◌≡◌, refl, sym, ap, ◌∙◌}
use mathlib.Core.Logic.{◌⊎◌, inl, inr}
use mathlib.Core.Bool.{Bool, true, false, not}
use mathlib.Core.List.{List}
use Prim.Native.Nat.{ℕ, ◌+◌, ◌*◌, ◌/◌, ◌%◌, ◌<◌, ◌≤◌, min, max}
use native.Mathlib.Omega.{arith}
use native.Mathlib.Decide.{dec_lt, ℕ_discrete}
use lib.ListN.{length, set, length-set, length-replicate, get_or-replicate}
use lib.Seq.{get_or-set_same, get_or-set_other}
use Rattle.geometry.specs.Words.{word}
use Rattle.lists.specs.inner.Filled.{filled}
use Rattle.tables.specs.Tables.{is_corner, pair_index, pair_byte}
use Rattle.tables.proofs.Pairs.{tri, tri_row, tri_col, tri_below, tri_240, pair_tri, pair_in}
use Rattle.tables.proofs.Marks.{byte_up, byte_down}
use Rattle.bits.specs.inner.Bits.{bit, With}
use Rattle.bits.proofs.Counting.{bit_zero}
use Rattle.adjacency.proofs.Words.{by_words}
use Rattle.adjacency.specs.inner.Adjacent.{Adjacent, Said, Shows, RowsBy, Entered, Noted, near_bit, spot}

-- the place of a pair's byte
spot_up : (u v : ℕ) → u < v → spot u v ≡ tri v + u
unfolding spot
spot_up u v l =
    let m : max u v ≡ v = omega arith in
    let n : min u v ≡ u = omega arith in
    rw (m, n) (pair_tri u v)

spot_down : (u v : ℕ) → v < u → spot u v ≡ tri u + v
unfolding spot
spot_down u v l =
    let m : max u v ≡ u = omega arith in
    let n : min u v ≡ v = omega arith in
    rw (m, n) (pair_tri v u)

byte_spot : (pairs : List ℕ) (u v : ℕ) → (u ≡ v → ⊥) → word pairs (spot u v) ≡ pair_byte pairs u v
byte_spot pairs u v d = go (dec_lt u v)
  where
    go : Dec (u < v) → word pairs (spot u v) ≡ pair_byte pairs u v
    go (yes l) = byte_up pairs u v (spot u v) l (spot_up u v l ∙ sym (pair_tri u v))
    go (no l) = byte_down pairs u v (spot u v) (omega arith) (spot_down u v (omega arith) ∙ sym (pair_tri v u))

pub spot_in_lem : (pairs : List ℕ) (at i j : ℕ) → length pairs ≡ 28680 → i < j → j < 192 → at ≡ pair_index i j → at < length pairs
spot_in_lem pairs at i j l h m e = omega (arith, pair_in i j h (omega arith))

pub row_end : (start j : ℕ) → start ≡ pair_index 0 j → j < 192 → start + j ≤ 28680
row_end start j e l = omega (arith, pair_tri 0 j, tri_below j 240 (omega arith), tri_240)

-- a place is that of one pair
spot_pair : (u v i j : ℕ) → i < j → (u ≡ v → ⊥) → spot u v ≡ pair_index i j → ((v ≡ j) × (u ≡ i)) ⊎ ((v ≡ i) × (u ≡ j))
spot_pair u v i j l d e = go (dec_lt u v)
  where
    go : Dec (u < v) → ((v ≡ j) × (u ≡ i)) ⊎ ((v ≡ i) × (u ≡ j))
    go (yes h) = let q : tri v + u ≡ tri j + i = sym (spot_up u v h) ∙ e ∙ pair_tri i j in inl (tri_row u v i j h l q, tri_col u v i j h l q)
    go (no h) =
        let g : v < u = omega arith in
        let q : tri u + v ≡ tri j + i = sym (spot_down u v g) ∙ e ∙ pair_tri i j in
        inr (tri_col v u i j g l q, tri_row v u i j g l q)

spot_low : (u v n : ℕ) → (u ≡ v → ⊥) → u < n → v < n → spot u v < tri n
spot_low u v n d a b = go (dec_lt u v)
  where
    go : Dec (u < v) → spot u v < tri n
    go (yes l) = omega (arith, spot_up u v l, tri_below v n b)
    go (no l) = omega (arith, spot_down u v (omega arith), tri_below u n a)

module _ (blocks pairs : List ℕ) where
  -- what the byte at n does to bit u of row v: nothing, or it sets it
  abbrev Step : ℕ → ℕ → ℕ → ℕ → ℕ → Type 0
  Step n v u old new =
      ((new ≡ old) × (spot u v ≡ n → Adjacent blocks pairs v u → ⊥)) ⊎ ((new ≡ 1) × Adjacent blocks pairs v u × (spot u v ≡ n))

  entered_next : (old new : List ℕ) (n : ℕ) → 576 ≤ length new → ((v u : ℕ) → v < 192 → u < 192 → Step n v u (near_bit old v u) (near_bit new v u))
      → Entered blocks pairs old n → Entered blocks pairs new (n + 1)
  entered_next old new n l h d = record { sized = l; each = λ v u a b. go v u (h v u a b) (d.each v u a b) }
    where
      go : (v u : ℕ) → Step n v u (near_bit old v u) (near_bit new v u) → Shows (Adjacent blocks pairs v u × (spot u v < n)) (near_bit old v u)
          → Shows (Adjacent blocks pairs v u × (spot u v < n + 1)) (near_bit new v u)
      go v u (inl (e, f)) s =
          rw e
          (record {
            small = s.small;
            yes' = λ q. let x = s.yes' q in (x.0, omega (arith, x.1));
            no' = λ x. s.no' (x.0, below x (ℕ_discrete (spot u v) n));
          })
        where
          below : Adjacent blocks pairs v u × (spot u v < n + 1) → Dec (spot u v ≡ n) → spot u v < n
          below x (yes q) = absurd (f q x.0)
          below x (no q) = omega (arith, x.1)
      go v u (inr (e, a, q)) s = record { small = omega (arith, e); yes' = λ y. (a, omega (arith, q)); no' = λ y. e }

  -- a byte that is not clear
  pub enter_none : (adj : List ℕ) (n : ℕ) → (word pairs n ≡ 254 → ⊥) → Entered blocks pairs adj n → Entered blocks pairs adj (n + 1)
  enter_none adj n h d =
      entered_next adj adj n d.sized (λ v u a b. inl (refl, λ q x. h (ap (word pairs) (sym q) ∙ byte_spot pairs u v x.differ ∙ x.clear))) d

  -- a clear one: the bit of a corner that is there is set
  step_clear : (n v u old new : ℕ) (t : Bool) → (u ≡ v → ⊥) → spot u v ≡ n → word pairs n ≡ 254 → t ≡ is_corner blocks u → (t ≡ true → new ≡ 1) → (t ≡ false → new ≡ old)
      → Step n v u old new
  step_clear n v u old new true d q w e y z =
      inr (y refl, record { present = sym e; differ = d; clear = sym (byte_spot pairs u v d) ∙ ap (word pairs) q ∙ w }, q)
  step_clear n v u old new false d q w e y z =
      inl (z refl, λ p x. let g : false ≡ true = e ∙ x.present in let k : ◌≡◌ {A = ℕ} 0 1 = cc in omega arith)

  module _ (n i j : ℕ) (l : i < j) (m : j < 192) (q : n ≡ pair_index i j) (w : word pairs n ≡ 254) where
    pub enter_clear : (old mid new : List ℕ) (t s : Bool) → t ≡ is_corner blocks i → Noted old mid j i t → s ≡ is_corner blocks j → Noted mid new i j s
        → Entered blocks pairs old n → Entered blocks pairs new (n + 1)
    enter_clear old mid new t s e a f b d = entered_next old new n (omega (arith, a.sized, b.sized, d.sized)) (λ v u x y. go v u x y (ℕ_discrete v j) (ℕ_discrete u i) (ℕ_discrete v i) (ℕ_discrete u j)) d
      where
        at_low : spot i j ≡ n
        at_low = spot_up i j l ∙ sym (pair_tri i j) ∙ sym q

        at_high : spot j i ≡ n
        at_high = spot_down j i l ∙ sym (pair_tri i j) ∙ sym q

        row_high : Step n j i (near_bit old j i) (near_bit new j i)
        row_high =
            let same : near_bit new j i ≡ near_bit mid j i = b.rest j i (omega arith) (omega arith) (λ p. omega (arith, p.0)) in
            step_clear n j i (near_bit old j i) (near_bit new j i) t (λ p. omega arith) at_low w e (λ p. same ∙ a.here p) (λ p. same ∙ a.unset p)

        row_low : Step n i j (near_bit old i j) (near_bit new i j)
        row_low =
            let same : near_bit mid i j ≡ near_bit old i j = a.rest i j (omega arith) (omega arith) (λ p. omega (arith, p.0)) in
            step_clear n i j (near_bit old i j) (near_bit new i j) s (λ p. omega arith) at_high w f (λ p. b.here p) (λ p. b.unset p ∙ same)

        other : (v u : ℕ) → v < 192 → u < 192 → ((v ≡ j) × (u ≡ i) → ⊥) → ((v ≡ i) × (u ≡ j) → ⊥) → Step n v u (near_bit old v u) (near_bit new v u)
        other v u x y g h = inl (b.rest v u x y h ∙ a.rest v u x y g, λ p z. none (spot_pair u v i j l z.differ (p ∙ q)))
          where
            none : ((v ≡ j) × (u ≡ i)) ⊎ ((v ≡ i) × (u ≡ j)) → ⊥
            none (inl p) = g p
            none (inr p) = h p

        go : (v u : ℕ) → v < 192 → u < 192 → Dec (v ≡ j) → Dec (u ≡ i) → Dec (v ≡ i) → Dec (u ≡ j) → Step n v u (near_bit old v u) (near_bit new v u)
        go v u x y (yes g) (yes h) c k = rw (g, h) row_high
        go v u x y (yes g) (no h) c k = other v u x y (λ p. h p.1) (λ p. omega (arith, p.0))
        go v u x y (no g) h (yes c) (yes k) = rw (c, k) row_low
        go v u x y (no g) h (yes c) (no k) = other v u x y (λ p. g p.0) (λ p. k p.1)
        go v u x y (no g) h (no c) k = other v u x y (λ p. g p.0) (λ p. c p.0)

  pub entered_at : (adj : List ℕ) (n m : ℕ) → n ≡ m → Entered blocks pairs adj n → Entered blocks pairs adj m
  entered_at adj n m e d = rw e at d

  -- nothing is entered in rows of zeros
  pub entered_none : (adj : List ℕ) (l : ℕ) → adj ≡ filled l 0 → 576 ≤ l → Entered blocks pairs adj 0
  unfolding filled
  entered_none adj l e z =
      rw e
      (record {
        sized = omega (arith, length-replicate {A = ℕ} l 0);
        each = λ v u a b.
            let k : near_bit (filled l 0) v u ≡ 0 = ap (bit (u % 64)) (get_or-replicate l (3 * v + u / 64) 0 0 (omega arith)) ∙ bit_zero (u % 64) in
            record { small = omega (arith, k); yes' = λ q. absurd (omega (arith, k)); no' = λ x. absurd (omega (arith, x.1)) };
      })

  -- all pairs of corners are entered
  pub entered_all : (adj : List ℕ) (n words : ℕ) → n ≡ tri 192 → length adj ≡ words → Entered blocks pairs adj n → RowsBy blocks (Said pairs) words adj 576
  entered_all adj n words e w d =
      record { sized = w; each = by_words (Adjacent blocks pairs) adj 192 (λ v u x y. forget v u (near_bit adj v u) x y (d.each v u x y)) }
    where
      forget : (v u b : ℕ) → v < 192 → u < 192 → Shows (Adjacent blocks pairs v u × (spot u v < n)) b → Shows (Adjacent blocks pairs v u) b
      forget v u b x y s =
          record { small = s.small; yes' = λ q. (s.yes' q).0; no' = λ a. s.no' (a, omega (arith, spot_low u v 192 a.differ y x)) }

-- one bit of one row
pub note_none : (adj : List ℕ) (v u : ℕ) (t : Bool) → 576 ≤ length adj → not t ≡ true → Noted adj adj v u t
note_none adj v u t l e =
    record { sized = refl; here = λ h. let k : ◌≡◌ {A = ℕ} 0 1 = cc (ap not h) in absurd (omega arith); unset = λ h. refl; rest = λ w s x y d. refl }

pub note_one : (adj : List ℕ) (v u w : ℕ) (t : Bool) → 576 ≤ length adj → v < 192 → u < 192 → not t ≡ false → With (word adj (3 * v + u / 64)) (u % 64) w
    → Noted adj (set adj (3 * v + u / 64) w) v u t
note_one adj v u w t l a b e h =
    record {
      sized = length-set adj (3 * v + u / 64) w;
      here = λ q. ap (bit (u % 64)) same ∙ h.here;
      unset = λ q. let k : ◌≡◌ {A = ℕ} 0 1 = cc (ap not q) in absurd (omega arith);
      rest = λ x y c d z. go x y d z (ℕ_discrete (3 * x + y / 64) (3 * v + u / 64));
    }
  where
    same : word (set adj (3 * v + u / 64) w) (3 * v + u / 64) ≡ w
    same = get_or-set_same adj (3 * v + u / 64) w 0 (omega arith)

    go : (x y : ℕ) → y < 192 → ((x ≡ v) × (y ≡ u) → ⊥) → Dec (3 * x + y / 64 ≡ 3 * v + u / 64) → near_bit (set adj (3 * v + u / 64) w) x y ≡ near_bit adj x y
    go x y d z (yes q) =
        let g : x ≡ v = omega arith in
        rw q (ap (bit (y % 64)) same ∙ h.rest (y % 64) (λ r. z (g, omega arith)))
    go x y d z (no q) = ap (bit (y % 64)) (get_or-set_other adj (3 * v + u / 64) (3 * x + y / 64) w 0 q)
