-- The records leave no choice of the prices.
use mathlib.Core.Path.{◌≡◌, sym, ap, ◌∙◌, subst}
use mathlib.Core.List.{List}
use Prim.Native.Nat.{ℕ, ◌+◌, ◌-◌, ◌<◌}
use native.Mathlib.Decide.{dec_lt}
use native.Mathlib.Omega.{arith}
use lib.Seq.{ext_get_or}
use Rattle.geometry.specs.Words.{word}
use Rattle.tables.specs.Tables.{Records}
use Rattle.visibility.specs.Visibility.{ByPlaces}
use Rattle.routing.proofs.Unique.{route_unique}
use Rattle.run_prices.specs.Prices.{Priced, Prices}

priced_unique : (R : Records) (m a b c d : ℕ) → Priced R (ByPlaces R) m a b → Priced R (ByPlaces R) m c d → (a ≡ c) × (b ≡ d)
priced_unique R m a b c d p q =
    let e = route_unique R (ByPlaces R) m p.route q.route in
    (p.state_is ∙ ap (λ (ws : List ℕ). word ws 0) e ∙ sym q.state_is, p.price_is ∙ ap (λ (ws : List ℕ). word ws 1) e ∙ sym q.price_is)

pub prices_unique : (R : Records) (x y : List ℕ) → Prices R (ByPlaces R) x → Prices R (ByPlaces R) y → x ≡ y
prices_unique R x y p q = ext_get_or 0 x y (p.sized ∙ sym q.sized) (λ i l. at i (omega (arith, p.sized)) (dec_lt i 24))
  where
    at : (i : ℕ) → i < 48 → Dec (i < 24) → word x i ≡ word y i
    at i l (yes h) = (priced_unique R i _ _ _ _ (p.each i h) (q.each i h)).0
    at i l (no h) =
        let e : 24 + (i - 24) ≡ i = omega arith in
        subst (λ (k : ℕ). word x k ≡ word y k) e (priced_unique R (i - 24) _ _ _ _ (p.each (i - 24) (omega arith)) (q.each (i - 24) (omega arith))).1
