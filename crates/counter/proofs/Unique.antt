-- A call of a quote answers one number and leaves one list of words.
use mathlib.Core.Path.{◌≡◌, sym, ◌∙◌}
use mathlib.Core.List.{List}
use Prim.Native.Nat.{ℕ}
use native.Mathlib.Decide.{ℕ_discrete}
use Rattle.tables.specs.Tables.{Records}
use Rattle.visibility.specs.Visibility.{ByPlaces}
use Rattle.routing.proofs.Unique.{route_unique}
use Rattle.counter.specs.Quote.{RouteQuoted}

pub quoted_unique : (R : Records) (m : ℕ) (route : List ℕ) (r s : ℕ) (x y : List ℕ) → RouteQuoted R m route r x → RouteQuoted R m route s y → (r ≡ s) × (x ≡ y)
quoted_unique R m route r s x y a b = (same_answer, go (ℕ_discrete r 0))
  where
    same_answer : r ≡ s
    same_answer = a.answer ∙ sym b.answer

    go : Dec (r ≡ 0) → x ≡ y
    go (yes z) = route_unique R (ByPlaces R) m (a.done z) (b.done (sym same_answer ∙ z))
    go (no z) = a.refused z ∙ sym (b.refused (λ q. z (same_answer ∙ q)))
