-- The set bits of a word, passed from the lowest up, and the pairs of blocks that they leave.
use mathlib.Core.Path.{◌≡◌, refl, sym, ap, subst, ◌∙◌}
use mathlib.Core.Bool.{Bool, true, false}
use mathlib.Core.Logic.{◌⊎◌, inl, inr}
use mathlib.Core.List.{List}
use Prim.Native.Nat.{ℕ, ◌+◌, ◌<◌, ◌≤◌, min}
use native.Mathlib.Nat.{min-le_left, min-le_right}
use native.Mathlib.Decide.{ℕ_discrete, dec_lt}
use native.Mathlib.Omega.{arith}
use lib.IntN.{ℤ}
use Rattle.lists.specs.inner.Tells.{Tells}
use Rattle.lists.proofs.Telling.{tells_yes, tells_no, tells_as}
use Rattle.geometry.specs.Words.{Point, word, block_words}
use Rattle.bits.specs.inner.Bits.{bit, Lowest, WithoutLowest}
use Rattle.bits.proofs.Counting.{bit_zero, bit_small, bit_set, bit_low}
use Rattle.seams.specs.Seam.{Shared}
use Rattle.seams.specs.inner.Reach.{Touched, Meeting}
use Rattle.seams.proofs.Joining.{First, Shut, by_meeting, meeting_by, by_shut}
use Rattle.seams.proofs.Seams.{Sharing, shared_of, turned, unshared, of_touched}
use Rattle.neighbours.specs.inner.Rectangles.{Parted}
use Rattle.seam_search.specs.inner.Masks.{Masks, TouchedIn, Numbers, Later, JoinedAmong, SharedAfter}

-- the set bits of `rest` are set in w, with each of them all those above it, and P holds of no other
pub record Walked (P : ℕ → Type 0) (w rest : ℕ) : Type 0 where
  pub kept : (k : ℕ) → bit k rest ≡ 1 → bit k w ≡ 1
  pub high : (j k : ℕ) → bit j rest ≡ 1 → j ≤ k → bit k w ≡ 1 → bit k rest ≡ 1
  pub each : (k : ℕ) → bit k w ≡ 1 → bit k rest ≡ 0 → P k → ⊥

module _ {P : ℕ → Type 0} {w : ℕ} where
  pub walked_whole : Walked P w w
  walked_whole = record { kept = λ k s. s; high = λ j k x l s. s; each = λ k s z. absurd (omega (arith, s, z)) }

  module _ {rest : ℕ} (x : Walked P w rest) where
    pub walked_all : rest ≤ 0 → (k : ℕ) → bit k w ≡ 1 → P k → ⊥
    walked_all z k s = let r : rest ≡ 0 = omega arith in x.each k s (ap (bit k) r ∙ bit_zero k)

    module _ {z : ℕ} (lowest : Lowest rest z) where
      pub walked_set : bit z w ≡ 1
      walked_set = x.kept z lowest.set

      module _ {rest' : ℕ} (n : WithoutLowest rest rest') where
        left : (k : ℕ) → bit k rest' ≡ 1 → (z < k) × (bit k rest ≡ 1)
        left k s = go (ℕ_discrete k z) (dec_lt k z)
          where
            go : Dec (k ≡ z) → Dec (k < z) → (z < k) × (bit k rest ≡ 1)
            go (yes e) d = absurd (omega (arith, s, ap (λ (j : ℕ). bit j rest') e, n.here z lowest))
            go (no e) (yes l) = absurd (omega (arith, s, n.rest z k lowest e, lowest.least k l))
            go (no e) (no l) =
                let m : (z < k) = elim (dec_lt z k) [ yes m ↦ m | no m ↦ absurd (e (omega arith)) ] in
                (m, sym (n.rest z k lowest e) ∙ s)

        pub still : (k : ℕ) → z < k → bit k w ≡ 1 → bit k rest' ≡ 1
        still k l s =
            let d : (k ≡ z → ⊥) = (λ (e : k ≡ z). omega arith) in
            n.rest z k lowest d ∙ x.high z k lowest.set (omega arith) s

        pub later_left : w < 16777216 → Later z rest'
        later_left l = record { after = λ k s. (left k s).0; numbers = record { each = λ k s. bit_low 24 w k l (x.kept k (left k s).1) } }

        pub walked_next : (P z → ⊥) → Walked P w rest'
        walked_next f =
            record {
              kept = λ k s. x.kept k (left k s).1;
              high = λ j k y l s. still k (omega (arith, (left j y).0)) s;
              each = λ k s y. go k s y (ℕ_discrete k z);
            }
          where
            go : (k : ℕ) → bit k w ≡ 1 → bit k rest' ≡ 0 → Dec (k ≡ z) → P k → ⊥
            go k s y (yes e) = subst (λ (j : ℕ). P j → ⊥) (sym e) f
            go k s y (no e) = x.each k s (sym (n.rest z k lowest e) ∙ y)

-- ---- the blocks of a word
module _ {blocks : List ℕ} {w : ℕ} {a b : Point} {l r p q : ℤ} where
  pub joined_yes : (k : ℕ) → bit k w ≡ 1 → Meeting (block_words blocks k) a b l r p q → Tells (JoinedAmong blocks w a b l r p q) true
  joined_yes k s h = tells_yes (record { k = k; marked = s; met = h })

  pub joined_no : {rest : ℕ} → Walked (λ k. Meeting (block_words blocks k) a b l r p q) w rest → rest ≤ 0 → Tells (JoinedAmong blocks w a b l r p q) false
  joined_no x z = tells_no (λ h. walked_all x z h.k h.marked h.met)

-- ---- the blocks after one
module _ (mask touched w : ℕ) (both : (i : ℕ) → bit i w ≡ min (bit i mask) (bit i touched)) where
  masked : (k : ℕ) → bit k w ≡ 1 → bit k mask ≡ 1
  masked k s = omega (arith, both k, s, min-le_left (bit k mask) (bit k touched), bit_small k mask)

  marked : (k : ℕ) → bit k w ≡ 1 → bit k touched ≡ 1
  marked k s = omega (arith, both k, s, min-le_right (bit k mask) (bit k touched), bit_small k touched)

  in_both : (k : ℕ) → bit k mask ≡ 1 → bit k touched ≡ 1 → bit k w ≡ 1
  in_both k x y = both k ∙ rw (x, y) refl

  pub both_numbers : {p : ℕ} → Later p touched → Numbers w
  both_numbers t = record { each = λ k s. t.numbers.each k (marked k s) }

  module _ {blocks : List ℕ} {p : ℕ} {a b : Point} where
    pub after_none : w ≡ 0 → Tells (SharedAfter blocks mask touched p a b) false
    after_none e = tells_no (λ h. absurd (omega (arith, in_both h.q h.masked h.marked, ap (bit h.q) e, bit_zero h.q)))

    pub after_joined : {l r u v : ℤ} {t : Bool} → First blocks a b p l r u v → Later p touched → Tells (JoinedAmong blocks w a b l r u v) t → Tells (SharedAfter blocks mask touched p a b) t
    after_joined f n =
        tells_as
        (λ j. let s = j.marked in record { q = j.k; later = n.after j.k (marked j.k s); masked = masked j.k s; marked = marked j.k s; shared = by_meeting _ _ _ f j.met })
        (λ h. record { k = h.q; marked = in_both h.q h.masked h.marked; met = meeting_by _ _ _ f h.shared })

pub after_shut : {blocks : List ℕ} {mask touched p : ℕ} {a b : Point} → Shut blocks a b p → Tells (SharedAfter blocks mask touched p a b) false
after_shut f = tells_no (λ h. by_shut _ _ _ f h.shared)

-- ---- all pairs
parted_unshared : {blocks : List ℕ} {a b : Point} {p q u s : ℕ} → Parted blocks p q → (p ≡ q → ⊥) → Sharing blocks a b p q u s → ⊥
parted_unshared {blocks} {a} {b} {p} {q} {u} {s} o d h =
    d (o.parted (u + s) _ _ h.some (of_touched blocks a b p u s h.first_number h.first) (of_touched blocks a b q u s h.second_number h.second))

pub among_yes : {blocks : List ℕ} {mask touched p : ℕ} {a b : Point} → p < 24 → Later p touched → SharedAfter blocks mask touched p a b → Tells (Shared blocks a b) true
among_yes {p = p} l t h =
    let d : (p ≡ h.q → ⊥) = (λ (e : p ≡ h.q). omega (arith, h.later)) in
    tells_yes
    (shared_of d
    (record { some = h.shared.some; first_number = l; second_number = t.numbers.each h.q h.marked; first = h.shared.here; second = h.shared.there }))

-- a block that shares no point with one of those left shares none with a later one
pub none_after : {P : ℕ → Type 0} {blocks : List ℕ} {mask touched rest rest' p : ℕ} {a b : Point} → Walked P touched rest → Lowest rest p → WithoutLowest rest rest' → (SharedAfter blocks mask rest' p a b → ⊥) → SharedAfter blocks mask touched p a b → ⊥
none_after x y n f h = f (record { q = h.q; later = h.later; masked = h.masked; marked = still x y n h.q h.later h.marked; shared = h.shared })

module _ {blocks masks : List ℕ} {a b : Point} {touched : ℕ} (m : Masks blocks masks) (t : TouchedIn blocks masks a b touched) where
  -- two blocks that share a point are in the words
  in_touched : {p q u s : ℕ} → (p ≡ q → ⊥) → Sharing blocks a b p q u s → bit p touched ≡ 1
  in_touched {p} {q} {u} {s} d h = bit_set p touched (λ e. missed (t.each p h.first_number e))
    where
      missed : (word masks p ≡ 0) ⊎ ((u s : ℕ) → 1 ≤ u + s → Touched (block_words blocks p) a b u s → ⊥) → ⊥
      missed (inl e) = parted_unshared (m.each p q h.first_number h.second_number (ap (bit q) e ∙ bit_zero q)) d h
      missed (inr f) = f u s h.some h.first

  in_mask : {p q u s : ℕ} → (p ≡ q → ⊥) → Sharing blocks a b p q u s → bit q (word masks p) ≡ 1
  in_mask {p} {q} d h = bit_set q (word masks p) (λ e. parted_unshared (m.each p q h.first_number h.second_number e) d h)

  pub among_no : {rest : ℕ} → Walked (λ p. SharedAfter blocks (word masks p) touched p a b) touched rest → rest ≤ 0 → Tells (Shared blocks a b) false
  among_no x z =
      tells_no
      (unshared (λ p q u s l h.
      let d : (p ≡ q → ⊥) = (λ (e : p ≡ q). omega arith) in
      let d' : (q ≡ p → ⊥) = (λ (e : q ≡ p). omega arith) in
      walked_all x z p (in_touched d h)
      (record {
        q = q;
        later = l;
        masked = in_mask d h;
        marked = in_touched d' (turned h);
        shared = record { u = u; s = s; some = h.some; here = h.first; there = h.second };
      })))
