-- What storing the length of a result promises.
use Rattle.std.specs.Prelude.{◌≡◌, List, [], ◌∷◌, ℕ}

-- the length stands in the lent word, unless a list had not its size
pub record SizePut (number size : ℕ) (before after : List ℕ) : Type 0 where
  pub kept : number ≡ 1 → after ≡ before
  pub put : (number ≡ 1 → ⊥) → after ≡ size ∷ []
