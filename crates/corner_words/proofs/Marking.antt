-- Words of corners, written one after the other, and those of one below a mark.
use mathlib.Core.Path.{◌≡◌, sym, subst, ◌∙◌}
use mathlib.Core.Bool.{true}
use mathlib.Core.List.{List}
use Prim.Native.Nat.{ℕ, ◌+◌, ◌*◌, ◌-◌, ◌/◌, ◌%◌, ◌<◌, ◌≤◌}
use native.Mathlib.Decide.{dec_lt}
use native.Mathlib.Omega.{arith}
use lib.ListN.{length, set, length-set}
use lib.Seq.{get_or-set_same, get_or-set_other}
use Rattle.geometry.specs.Words.{word}
use Rattle.bits.specs.inner.Bits.{bit}
use Rattle.bits.proofs.Counting.{bit_zero, bit_set}
use Rattle.tables.specs.Tables.{is_corner}
use Rattle.adjacency.specs.inner.Adjacent.{Shows}
use Rattle.mark_rows.proofs.Words.{Part, part_whole, shows_not}
use Rattle.corner_words.specs.inner.Corners.{LowBits, Lower, CornersOf, Lefts}

-- one word more is written
set_next : (At : ℕ → ℕ → Type 0) (s : List ℕ) (n w : ℕ) → n < length s → ((k : ℕ) → k < n → At k (word s k)) → At n w → (k : ℕ) → k < n + 1 → At k (word (set s n w) k)
set_next At s n w l h x k b = go (dec_lt k n)
  where
    go : Dec (k < n) → At k (word (set s n w) k)
    go (yes g) = subst (At k) (sym (get_or-set_other s n k w 0 (omega arith))) (h k g)
    go (no g) =
        let e : n ≡ k = omega arith in
        subst (λ (j : ℕ). At j (word (set s n w) j)) e (subst (At n) (sym (get_or-set_same s n w 0 l)) x)

pub corners_none : (blocks corners : List ℕ) → length corners ≡ 3 → CornersOf blocks corners 0
corners_none blocks corners e = record { sized = e; each = λ q l. absurd (omega arith) }

pub corners_next : (blocks corners : List ℕ) (n w : ℕ) → CornersOf blocks corners n → n < 3 → ((i : ℕ) → i < 64 → Shows (is_corner blocks (64 * n + i) ≡ true) (bit i w))
    → CornersOf blocks (set corners n w) (n + 1)
corners_next blocks corners n w c l h =
    record {
      sized = length-set corners n w ∙ c.sized;
      each = set_next (λ q x. (i : ℕ) → i < 64 → Shows (is_corner blocks (64 * q + i) ≡ true) (bit i x)) corners n w (omega (arith, c.sized)) c.each h;
    }

pub lefts_none : (codes lefts : List ℕ) → length lefts ≡ 24 → Lefts codes lefts 0
lefts_none codes lefts e = record { sized = e; each = λ k l. absurd (omega arith) }

pub lefts_next : (codes lefts : List ℕ) (n w : ℕ) → Lefts codes lefts n → n < 24 → ((i : ℕ) → i < 64 → bit i w ≡ 0 → bit (n / 3) (word codes (64 * (n % 3) + i)) ≡ 1)
    → Lefts codes (set lefts n w) (n + 1)
lefts_next codes lefts n w c l h =
    record {
      sized = length-set lefts n w ∙ c.sized;
      each = set_next (λ k x. (i : ℕ) → i < 64 → bit i x ≡ 0 → bit (k / 3) (word codes (64 * (k % 3) + i)) ≡ 1) lefts n w (omega (arith, c.sized)) c.each h;
    }

-- a clear bit of a word of those that are left of a side
pub left_whole : (codes : List ℕ) (b q k w : ℕ) → Part (λ u. bit b (word codes u) ≡ 0) q k w → k ≤ 0 → (i : ℕ) → i < 64 → bit i w ≡ 0 → bit b (word codes (64 * q + i)) ≡ 1
left_whole codes b q k w p z i l e = bit_set b (word codes (64 * q + i)) (λ h. omega (arith, (part_whole _ q k w p z i l).no' h))

-- the corners of a word below mark v: none, all, or those of its lowest bits
module _ (blocks corners : List ℕ) (v q : ℕ) (c : CornersOf blocks corners 3) (l : q < 3) where
  lower : (u b : ℕ) → u < v → Shows (is_corner blocks u ≡ true) b → Shows (Lower blocks v u) b
  lower u b d s = record { small = s.small; yes' = λ e. record { corner = s.yes' e; below = d }; no' = λ o. s.no' o.corner }

  pub lower_none : v ≤ 64 * q → (i : ℕ) → i < 64 → Shows (Lower blocks v (64 * q + i)) (bit i 0)
  lower_none h i b = rw (bit_zero i) (shows_not _ (λ o. omega (arith, o.below)))

  pub lower_all : 64 * q + 64 ≤ v → (i : ℕ) → i < 64 → Shows (Lower blocks v (64 * q + i)) (bit i (word corners q))
  lower_all h i b = lower (64 * q + i) _ (omega arith) (c.each q l i b)

  pub lower_some : (n r : ℕ) → n ≡ v - 64 * q → LowBits (word corners q) n r → (i : ℕ) → i < 64 → Shows (Lower blocks v (64 * q + i)) (bit i r)
  lower_some n r e w i b = go (dec_lt i n)
    where
      go : Dec (i < n) → Shows (Lower blocks v (64 * q + i)) (bit i r)
      go (yes h) = lower (64 * q + i) _ (omega arith) (rw (w.same i h) (c.each q l i b))
      go (no h) = rw (w.clear i (omega arith)) (shows_not _ (λ o. omega (arith, o.below)))
