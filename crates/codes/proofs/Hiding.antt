-- What the codes of two marks say of one block, and of all of them in order.
use mathlib.Core.Path.{◌≡◌, ◌∙◌}
use mathlib.Core.Logic.{◌⊎◌, inl, inr}
use mathlib.Core.List.{List}
use Rattle.std.specs.Prelude.{Some, None}
use Prim.Native.Nat.{ℕ, ◌+◌, ◌*◌, ◌-◌, ◌<◌, ◌≤◌}
use native.Mathlib.Decide.{ℕ_discrete, dec_lt}
use native.Mathlib.Omega.{arith}
use lib.ListN.{take, drop}
use Rattle.bits.specs.inner.Bits.{bit, With}
use Rattle.geometry.specs.Words.{Point, word, block_words}
use Rattle.geometry.specs.Obstruction.{Hidden}
use Rattle.geometry.proofs.Searching.{part_is}
use Rattle.tables.specs.Tables.{Records, stored, place_of}
use Rattle.codes.specs.declared.Meeting.{Meeting}
use Rattle.codes.specs.declared.Meeting.TheVariants.{Misses, Touches, Hides}
use Rattle.codes.specs.inner.Codes.{CodesAre, Missed, Met, Coded, Beside, PassedBy, Looked}
use Rattle.codes.proofs.Coded.{shared}

module _ (blocks runs codes : List ℕ) (d : Coded (stored blocks runs) codes) (n i j : ℕ) (hn : n < 24) (hi : i < 240) (hj : j < 240) where
  abbrev R : Records
  R = stored blocks runs

  pub codes_are : (a b : Point) → a ≡ place_of R i → b ≡ place_of R j → CodesAre (block_words blocks n) (word codes (240 * n + i)) (word codes (240 * n + j)) a b
  codes_are a b p q =
      record {
        right = d.records.each n hn;
        first = d.table.each n i hn hi ∙ rw p;
        last = d.table.each n j hn hj ∙ rw q;
      }

  pub part_codes : (a b : Point) → a ≡ place_of R i → b ≡ place_of R j
      → CodesAre (take (17 * n + 17 - 17 * n) (drop (17 * n) blocks)) (word codes (240 * n + i)) (word codes (240 * n + j)) a b
  part_codes a b p q = rw (part_is blocks n) (codes_are a b p q)

  pub beside_unhidden : (a b : Point) → a ≡ place_of R i → b ≡ place_of R j → Beside codes n i j → Hidden blocks n a b → ⊥
  beside_unhidden a b p q e h = shared (codes_are a b p q) e (h.stands, h.across)

pub part_met : (blocks : List ℕ) (n : ℕ) (a b : Point) (r : Meeting) → Met (take (17 * n + 17 - 17 * n) (drop (17 * n) blocks)) a b r → Met (block_words blocks n) a b r
part_met blocks n a b r m = rw (part_is blocks n) at m

-- of the blocks below n, none hides the segment, and those whose bit is 0 it is beside or misses
pub record LookedTo (blocks codes : List ℕ) (i j : ℕ) (a b : Point) (n opened : ℕ) : Type 0 where
  pub small : n ≤ 24
  pub none : (k : ℕ) → k < n → Hidden blocks k a b → ⊥
  pub rest : (k : ℕ) → k < n → bit k opened ≡ 0 → Beside codes k i j ⊎ Missed (block_words blocks k) a b

module _ (blocks codes : List ℕ) (i j : ℕ) (a b : Point) where
  pub look_none : LookedTo blocks codes i j a b 0 0
  look_none = record { small = omega arith; none = λ k h. absurd (omega arith); rest = λ k h. absurd (omega arith) }

  -- one block more
  look_next : (n opened more : ℕ) → n < 24 → (Hidden blocks n a b → ⊥) → (bit n more ≡ 0 → Beside codes n i j ⊎ Missed (block_words blocks n) a b)
      → ((k : ℕ) → bit k more ≡ 0 → bit k opened ≡ 0) → LookedTo blocks codes i j a b n opened → LookedTo blocks codes i j a b (n + 1) more
  look_next n opened more l f g h u = record { small = omega arith; none = λ k m. none k m (ℕ_discrete k n); rest = λ k m. rest k m (ℕ_discrete k n) }
    where
      none : (k : ℕ) → k < n + 1 → Dec (k ≡ n) → Hidden blocks k a b → ⊥
      none k m (yes q) x = f (rw q at x)
      none k m (no q) x = u.none k (omega arith) x

      rest : (k : ℕ) → k < n + 1 → Dec (k ≡ n) → bit k more ≡ 0 → Beside codes k i j ⊎ Missed (block_words blocks k) a b
      rest k m (yes q) z = rw q (g (rw q at z))
      rest k m (no q) z = u.rest k (omega arith) (h k z)

  pub look_beside : (n opened : ℕ) → n < 24 → Beside codes n i j → (Hidden blocks n a b → ⊥) → LookedTo blocks codes i j a b n opened → LookedTo blocks codes i j a b (n + 1) opened
  look_beside n opened l e f = look_next n opened opened l f (λ z. inl e) (λ k z. z)

  pub look_passed : (n r opened : ℕ) → ((k : ℕ) → k < 24 → Beside codes k i j → Hidden blocks k a b → ⊥) → PassedBy codes i j n r → LookedTo blocks codes i j a b n opened
      → LookedTo blocks codes i j a b r opened
  look_passed n r opened f p u =
      record {
        small = p.small;
        none = λ k m x. elim (dec_lt k n) [ yes l ↦ u.none k l x | no l ↦ f k (omega (arith, p.small)) (p.all k (omega arith) m) x ];
        rest = λ k m z. elim (dec_lt k n) [ yes l ↦ u.rest k l z | no l ↦ inl (p.all k (omega arith) m) ];
      }

  pub look_touched : (n opened more : ℕ) → n < 24 → Met (block_words blocks n) a b Touches → With opened n more → LookedTo blocks codes i j a b n opened → LookedTo blocks codes i j a b (n + 1) more
  look_touched n opened more l m f = look_next n opened more l (λ h. m (h.stands, h.across)) (λ z. absurd (omega (arith, f.here))) (λ k z. kept k z (ℕ_discrete k n))
    where
      kept : (k : ℕ) → bit k more ≡ 0 → Dec (k ≡ n) → bit k opened ≡ 0
      kept k z (yes q) = absurd (omega (arith, f.here, (rw q at z)))
      kept k z (no q) = omega (arith, f.rest k q)

  pub look_missed : (n opened : ℕ) → n < 24 → Met (block_words blocks n) a b Misses → LookedTo blocks codes i j a b n opened → LookedTo blocks codes i j a b (n + 1) opened
  look_missed n opened l m = look_next n opened opened l (λ h. m.0 (h.stands, h.across)) (λ z. inr m.1) (λ k z. z)

  pub look_found : (n opened : ℕ) → n < 24 → Met (block_words blocks n) a b Hides → LookedTo blocks codes i j a b n opened → Looked blocks codes i j a b (Some n) opened
  look_found n opened l m u =
      record { first = record { none = u.none; here = (l, record { stands = m.0; across = m.1 }) }; rest = u.rest }

  pub look_all : (n opened : ℕ) → 24 ≤ n → LookedTo blocks codes i j a b n opened → Looked blocks codes i j a b None opened
  look_all n opened l u = let e : n ≡ 24 = omega (arith, u.small) in record { first = record { none = rw e at u.none; here = tt }; rest = rw e at u.rest }
