-- The words of a quote, written run by run.
use mathlib.Core.Path.{◌≡◌, ◌∙◌}
use mathlib.Core.List.{List}
use Prim.Native.Nat.{ℕ, ◌+◌, ◌<◌, ◌≤◌}
use native.Mathlib.Decide.{dec_lt}
use native.Mathlib.Omega.{arith}
use lib.ListN.{length, set, length-set}
use lib.Seq.{get_or-set_same, get_or-set_other}
use Rattle.geometry.specs.Words.{word}
use Rattle.tables.specs.Tables.{Records}
use Rattle.visibility.specs.Visibility.{ByPlaces}
use Rattle.run_prices.specs.Prices.{Priced, Prices}

-- the runs below m are priced
pub record PricedTo (R : Records) (quote : List ℕ) (m : ℕ) : Type 0 where
  pub sized : length quote ≡ 48
  pub each : (k : ℕ) → k < m → Priced R (ByPlaces R) k (word quote k) (word quote (24 + k))

pub priced_none : (R : Records) (quote : List ℕ) → length quote ≡ 48 → PricedTo R quote 0
priced_none R quote l = record { sized = l; each = λ k h. absurd (omega arith) }

pub priced_all : (R : Records) (quote : List ℕ) (m : ℕ) → 24 ≤ m → PricedTo R quote m → Prices R (ByPlaces R) quote
priced_all R quote m l p = record { sized = p.sized; each = λ k h. p.each k (omega arith) }

pub priced_next : (R : Records) (quote : List ℕ) (m state price : ℕ) → m < 24 → PricedTo R quote m → Priced R (ByPlaces R) m state price
    → PricedTo R (set (set quote m state) (24 + m) price) (m + 1)
priced_next R quote m state price l p r =
    record { sized = length-set (set quote m state) (24 + m) price ∙ first_sized; each = λ k h. at k h (dec_lt k m) }
  where
    first_sized : length (set quote m state) ≡ 48
    first_sized = length-set quote m state ∙ p.sized

    after : List ℕ
    after = set (set quote m state) (24 + m) price

    here : word after m ≡ state
    here = get_or-set_other (set quote m state) (24 + m) m price 0 (omega arith) ∙ get_or-set_same quote m state 0 (omega (arith, p.sized))

    final : word after (24 + m) ≡ price
    final = get_or-set_same (set quote m state) (24 + m) price 0 (omega (arith, first_sized))

    other : (i : ℕ) → (i ≡ m → ⊥) → (i ≡ 24 + m → ⊥) → word after i ≡ word quote i
    other i a b = get_or-set_other (set quote m state) (24 + m) i price 0 b ∙ get_or-set_other quote m i state 0 a

    at : (k : ℕ) → k < m + 1 → Dec (k < m) → Priced R (ByPlaces R) k (word after k) (word after (24 + k))
    at k h (yes b) = rw (other k (omega arith) (omega arith), other (24 + k) (omega arith) (omega arith)) (p.each k b)
    at k h (no b) = let q : k ≡ m = omega arith in rw (q, here, final) r
