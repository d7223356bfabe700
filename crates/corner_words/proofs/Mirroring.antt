-- Rows mirrored word by word, and the mark of one word entered corner by corner.
use mathlib.Core.Path.{◌≡◌, refl, sym, ap, ◌∙◌}
use mathlib.Core.List.{List}
use Prim.Native.Nat.{ℕ, ◌+◌, ◌*◌, ◌/◌, ◌%◌, ◌<◌, ◌≤◌}
use native.Mathlib.Decide.{ℕ_discrete, dec_lt}
use native.Mathlib.Omega.{arith}
use lib.ListN.{length, set, length-set}
use lib.Seq.{get_or-set_same, get_or-set_other}
use Rattle.geometry.specs.Words.{word}
use Rattle.bits.specs.inner.Bits.{bit, Lowest, WithoutLowest, With}
use Rattle.bits.proofs.Counting.{bit_zero, bit_set}
use Rattle.adjacency.specs.inner.Adjacent.{near_bit}
use Rattle.corner_words.specs.inner.Mirrors.{LowerOnly, Mirrored, TurnedWord}

-- bit v of row u is set, and all else is as it was
module _ (rows : List ℕ) (u v w : ℕ) (z : length rows ≡ 720) (l : u < 192) (m : v < 192) (h : With (word rows (3 * u + v / 64)) (v % 64) w) where
  same_word : word (set rows (3 * u + v / 64) w) (3 * u + v / 64) ≡ w
  same_word = get_or-set_same rows (3 * u + v / 64) w 0 (omega arith)

  bit_here : near_bit (set rows (3 * u + v / 64) w) u v ≡ 1
  bit_here = ap (bit (v % 64)) same_word ∙ h.here

  bit_else : (x y : ℕ) → y < 192 → (x ≡ u → y ≡ v → ⊥) → near_bit (set rows (3 * u + v / 64) w) x y ≡ near_bit rows x y
  bit_else x y b d = go (ℕ_discrete (3 * x + y / 64) (3 * u + v / 64))
    where
      go : Dec (3 * x + y / 64 ≡ 3 * u + v / 64) → near_bit (set rows (3 * u + v / 64) w) x y ≡ near_bit rows x y
      go (yes q) = rw q (ap (bit (y % 64)) same_word ∙ h.rest (y % 64) (λ r. d (omega arith) (omega arith)))
      go (no q) = ap (bit (y % 64)) (get_or-set_other rows (3 * u + v / 64) (3 * x + y / 64) w 0 q)

-- of word k the bits that are gone from `rest` are turned
pub record Turning (old new : List ℕ) (k rest : ℕ) : Type 0 where
  pub sized : length new ≡ 720
  pub among : (i : ℕ) → bit i rest ≡ 1 → bit i (word old k) ≡ 1
  pub turned : (i : ℕ) → i < 64 → bit i (word old k) ≡ 1 → bit i rest ≡ 0 → near_bit new (64 * (k % 3) + i) (k / 3) ≡ 1
  pub others : (x y : ℕ) → y < 192 → (y ≡ k / 3 → x / 64 ≡ k % 3 → bit (x % 64) (word old k) ≡ 1 → ⊥) → near_bit new x y ≡ near_bit old x y

pub turning_none : (rows : List ℕ) (k : ℕ) → length rows ≡ 720 → Turning rows rows k (word rows k)
turning_none rows k z = record { sized = z; among = λ i e. e; turned = λ i b e n. absurd (omega arith); others = λ x y b d. refl }

pub turning_next : {old new : List ℕ} {k rest i : ℕ} (w rest' : ℕ) → k < 576 → Turning old new k rest → Lowest rest i
    → With (word new (3 * (64 * (k % 3) + i) + k / 3 / 64)) (k / 3 % 64) w → WithoutLowest rest rest'
    → Turning old (set new (3 * (64 * (k % 3) + i) + k / 3 / 64) w) k rest'
turning_next {old} {new} {k} {rest} {i} w rest' b t lowest h fewer =
    record {
      sized = length-set new at w ∙ t.sized;
      among = λ j e. still j e (ℕ_discrete j i);
      turned = λ j l e n. gone j l e n (ℕ_discrete j i);
      others = λ x y l d.
          bit_else new u v w t.sized (omega (arith, lowest.within)) (omega arith) h x y l (λ p q. d q (omega (arith, lowest.within)) (bit_of x p)) ∙ t.others x y l d;
    }
  where
    u : ℕ
    u = 64 * (k % 3) + i

    v : ℕ
    v = k / 3

    at : ℕ
    at = 3 * u + v / 64

    bit_of : (x : ℕ) → x ≡ u → bit (x % 64) (word old k) ≡ 1
    bit_of x p = let e : x % 64 ≡ i = omega (arith, lowest.within) in rw e (t.among i lowest.set)

    still : (j : ℕ) → bit j rest' ≡ 1 → Dec (j ≡ i) → bit j (word old k) ≡ 1
    still j e (yes p) = absurd (omega (arith, ap (λ (n : ℕ). bit n rest') p, fewer.here i lowest))
    still j e (no p) = t.among j (sym (fewer.rest i j lowest p) ∙ e)

    gone : (j : ℕ) → j < 64 → bit j (word old k) ≡ 1 → bit j rest' ≡ 0 → Dec (j ≡ i) → near_bit (set new at w) (64 * (k % 3) + j) v ≡ 1
    gone j l e n (yes p) = rw p (bit_here new u v w t.sized (omega (arith, lowest.within)) (omega arith) h)
    gone j l e n (no p) =
        bit_else new u v w t.sized (omega (arith, lowest.within)) (omega arith) h (64 * (k % 3) + j) v (omega arith) (λ q r. p (omega arith))
        ∙ t.turned j l e (sym (fewer.rest i j lowest p) ∙ n)

pub turning_all : {old new : List ℕ} {k rest : ℕ} → Turning old new k rest → rest ≤ 0 → TurnedWord old new k
turning_all {old} {new} {k} {rest} t z =
    let e : rest ≡ 0 = omega arith in
    record { sized = t.sized; turned = λ i l b. t.turned i l b (ap (bit i) e ∙ bit_zero i); rest = t.others }

-- the first k words are mirrored
pub record Mirroring (old new : List ℕ) (k : ℕ) : Type 0 where
  pub sized : length new ≡ 720
  pub kept : (v u : ℕ) → v < 240 → u < v → u < 192 → near_bit new v u ≡ near_bit old v u
  pub turned : (v u : ℕ) → v < 192 → u < v → 3 * v + u / 64 < k → near_bit new u v ≡ near_bit old v u
  pub later : (v u : ℕ) → v < 192 → u < v → k ≤ 3 * v + u / 64 → near_bit new u v ≡ 0
  pub own : (v : ℕ) → v < 192 → near_bit new v v ≡ 0

-- a bit that is not that of a lower mark is clear
pub mirroring_none : (rows : List ℕ) → LowerOnly rows → Mirroring rows rows 0
mirroring_none rows l =
    record {
      sized = l.sized;
      kept = λ v u a b d. refl;
      turned = λ v u a b d. absurd (omega arith);
      later = λ v u a b d. clear u v (omega arith) a (omega arith);
      own = λ v a. clear v v (omega arith) a (omega arith);
    }
  where
    clear : (v u : ℕ) → v < 240 → u < 192 → v ≤ u → near_bit rows v u ≡ 0
    clear v u a b d = go (ℕ_discrete (near_bit rows v u) 0)
      where
        go : Dec (near_bit rows v u ≡ 0) → near_bit rows v u ≡ 0
        go (yes e) = e
        go (no n) = absurd (omega (arith, l.each v u a b (bit_set (u % 64) (word rows (3 * v + u / 64)) n)))

module _ (old mid new : List ℕ) (k : ℕ) (b : k < 576) (m : Mirroring old mid k) (t : TurnedWord mid new k) where
  -- word k has the bits of lower marks only
  word_lower : (u : ℕ) → u < 192 → u / 64 ≡ k % 3 → bit (u % 64) (word mid k) ≡ 1 → u < k / 3
  word_lower u l q e = go (dec_lt u (k / 3)) (ℕ_discrete u (k / 3))
    where
      at : 3 * (k / 3) + u / 64 ≡ k
      at = omega arith

      here : near_bit mid (k / 3) u ≡ 1
      here = rw at e

      go : Dec (u < k / 3) → Dec (u ≡ k / 3) → u < k / 3
      go (yes h) d = h
      go (no h) (yes d) = absurd (omega (arith, here, ap (λ (x : ℕ). near_bit mid x u) d, m.own u l))
      go (no h) (no d) = absurd (omega (arith, here, m.later u (k / 3) l (omega arith) (omega arith)))

  -- a bit of another word stays
  stays : (v u : ℕ) → u < 192 → v < 240 → (u ≡ k / 3 → v < u → v / 64 ≡ k % 3 → ⊥) → near_bit new v u ≡ near_bit mid v u
  stays v u l g d = t.rest v u l (λ p q e. d p (omega (arith, word_lower v (omega arith) q e)) q)

  pub mirroring_next : Mirroring old new (k + 1)
  mirroring_next =
      record {
        sized = t.sized;
        kept = λ v u a l d. stays v u d a (λ p q r. omega arith) ∙ m.kept v u a l d;
        turned = λ v u a l d. go v u a l (dec_lt (3 * v + u / 64) k) d;
        later = λ v u a l d. stays u v a (omega arith) (λ p q r. omega arith) ∙ m.later v u a l (omega arith);
        own = λ v a. stays v v a (omega arith) (λ p q r. omega arith) ∙ m.own v a;
      }
    where
      at_word : (v u : ℕ) → v < 192 → u < v → 3 * v + u / 64 ≡ k → Dec (near_bit mid v u ≡ 0) → near_bit new u v ≡ near_bit old v u
      at_word v u a l e (yes z) =
          t.rest u v a (λ p q r. omega (arith, ap (λ (j : ℕ). bit (u % 64) (word mid j)) e)) ∙ m.later v u a l (omega arith) ∙ sym z ∙ m.kept v u (omega arith) l (omega arith)
      at_word v u a l e (no n) =
          let o : near_bit mid v u ≡ 1 = bit_set (u % 64) (word mid (3 * v + u / 64)) n in
          let r : 64 * (k % 3) + u % 64 ≡ u = omega arith in
          let p : k / 3 ≡ v = omega arith in
          let s : near_bit new u v ≡ 1 = rw (r, p) at (t.turned (u % 64) (omega arith) (ap (λ (j : ℕ). bit (u % 64) (word mid j)) (sym e) ∙ o)) in
          s ∙ sym o ∙ m.kept v u (omega arith) l (omega arith)

      go : (v u : ℕ) → v < 192 → u < v → Dec (3 * v + u / 64 < k) → 3 * v + u / 64 < k + 1 → near_bit new u v ≡ near_bit old v u
      go v u a l (yes h) d = stays u v a (omega arith) (λ p q r. omega arith) ∙ m.turned v u a l h
      go v u a l (no h) d = at_word v u a l (omega arith) (ℕ_discrete (near_bit mid v u) 0)

pub mirroring_all : (old new : List ℕ) (k : ℕ) → Mirroring old new k → 576 ≤ k → Mirrored old new
mirroring_all old new k m l = record { sized = m.sized; kept = m.kept; turned = λ v u a b. m.turned v u a b (omega arith); own = m.own }
