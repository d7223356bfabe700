-- A call of the quote answers one number and leaves one list of words, which the pairs, routes and totals lent do not touch.
use mathlib.Core.Path.{◌≡◌, refl, sym, ◌∙◌}
use mathlib.Core.List.{List}
use Prim.Native.Nat.{ℕ}
use native.Mathlib.Decide.{ℕ_discrete}
use lib.IntN.{ℤ}
use Rattle.tables.specs.Tables.{Tables, records}
use Rattle.run_prices.proofs.Unique.{prices_unique}
use Rattle.move_quotes.specs.Quote.{moved, MoveQuoted}

pub quoted_unique : (T : Tables) (n : ℕ) (de dn : ℤ) (quote : List ℕ) (r s : ℕ) (x y : List ℕ)
    → MoveQuoted T n de dn quote r x → MoveQuoted T n de dn quote s y → (r ≡ s) × (x ≡ y)
quoted_unique T n de dn quote r s x y a b = (same_answer, go (ℕ_discrete r 0))
  where
    same_answer : r ≡ s
    same_answer = a.answer ∙ sym b.answer

    go : Dec (r ≡ 0) → x ≡ y
    go (yes z) = prices_unique (moved (records T) n de dn) x y (a.done z) (b.done (sym same_answer ∙ z))
    go (no z) = a.refused z ∙ sym (b.refused (λ q. z (same_answer ∙ q)))

-- two yards with the same records are quoted alike, whatever their other tables hold
pub quoted_alike : (T U : Tables) (n : ℕ) (de dn : ℤ) (q p x y : List ℕ) → records T ≡ records U
    → MoveQuoted T n de dn q 0 x → MoveQuoted U n de dn p 0 y → x ≡ y
quoted_alike T U n de dn q p x y e a b = prices_unique (moved (records U) n de dn) x y (rw e at (a.done refl)) (b.done refl)
