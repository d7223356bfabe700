-- How a test's promise is met and used.
use mathlib.Core.Path.{◌≡◌, sym}
use mathlib.Core.Bool.{Bool, true, false, not, true≢false}
use borrow.Author.Tests.{not-true, not-false}
use Rattle.lists.specs.inner.Tells.{Tells}

pub tells_yes : {P : Type 0} → P → Tells P true
tells_yes p = record { yes' = λ e. p; no' = λ e. absurd (true≢false e) }

pub tells_no : {P : Type 0} → (P → ⊥) → Tells P false
tells_no n = record { yes' = λ e. absurd (true≢false (sym e)); no' = λ e. n }

-- the answer of a test of the same thing in other words
pub tells_as : {P Q : Type 0} {t : Bool} → (P → Q) → (Q → P) → Tells P t → Tells Q t
tells_as f g h = record { yes' = λ e. f (h.yes' e); no' = λ e q. h.no' e (g q) }

pub told : {P : Type 0} {t : Bool} → Tells P t → not t ≡ false → P
told {t = t} h e = h.yes' (not-false t e)

pub denied : {P : Type 0} {t : Bool} → Tells P t → not t ≡ true → P → ⊥
denied {t = t} h e = h.no' (not-true t e)
