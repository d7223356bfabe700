-- The word of open corners, one side after the other.
use mathlib.Core.Path.{◌≡◌, sym, ap, ◌∙◌}
use mathlib.Core.List.{List}
use Prim.Native.Nat.{ℕ, ◌+◌, ◌*◌, ◌<◌, min}
use native.Mathlib.Nat.{min-le_left}
use native.Mathlib.Decide.{ℕ_discrete}
use native.Mathlib.Omega.{arith}
use Rattle.geometry.specs.Words.{word}
use Rattle.bits.specs.inner.Bits.{bit, Lowest, WithoutLowest}
use Rattle.bits.proofs.Counting.{bit_small, bit_set, bit_low}
use Rattle.corner_words.specs.inner.Corners.{OpenWord}

-- the sides so far are passed, and those to come are sides of c
pub record Opened (lefts : List ℕ) (c q w r rest : ℕ) : Type 0 where
  pub opened : OpenWord lefts c q w r
  pub among : (b : ℕ) → bit b rest ≡ 1 → (b < 8) × (bit b c ≡ 1)

pub opened_none : (lefts : List ℕ) (c q w : ℕ) → c < 256 → Opened lefts c q w w c
opened_none lefts c q w l =
    record {
      opened = record { only = λ i e. e; rest = λ i e z. absurd (omega arith) };
      among = λ b e. (bit_low 8 c b (omega arith) e, e);
    }

module _ (lefts : List ℕ) (c q w r rest : ℕ) (o : Opened lefts c q w r rest) (b : ℕ) (lowest : Lowest rest b) where
  pub side_below : b < 8
  side_below = (o.among b lowest.set).0

  pub opened_next : (r' rest' : ℕ) → ((i : ℕ) → bit i r' ≡ min (bit i r) (bit i (word lefts (3 * b + q)))) → WithoutLowest rest rest' → Opened lefts c q w r' rest'
  opened_next r' rest' both fewer =
      record {
        opened = record {
          only = λ i e. o.opened.only i (omega (arith, both i, min-le_left (bit i r) (bit i (word lefts (3 * b + q))), bit_small i r));
          rest = λ i e z. lost i e z (ℕ_discrete (bit i r) 0);
        };
        among = λ j e. still j e (ℕ_discrete j b);
      }
    where
      lost : (i : ℕ) → bit i w ≡ 1 → bit i r' ≡ 0 → Dec (bit i r ≡ 0) → (j : ℕ) × (j < 8) × (bit j c ≡ 1) × (bit i (word lefts (3 * j + q)) ≡ 0)
      lost i e z (yes h) = o.opened.rest i e h
      lost i e z (no h) =
          let s = o.among b lowest.set in
          (b, s.0, s.1, omega (arith, both i, bit_set i r h, bit_small i (word lefts (3 * b + q))))

      still : (j : ℕ) → bit j rest' ≡ 1 → Dec (j ≡ b) → (j < 8) × (bit j c ≡ 1)
      still j e (yes h) = absurd (omega (arith, ap (λ (k : ℕ). bit k rest') h, fewer.here b lowest))
      still j e (no h) = o.among j (sym (fewer.rest b j lowest h) ∙ e)
