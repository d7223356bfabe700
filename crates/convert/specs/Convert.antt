-- The contracts of shortening and lengthening a yard file into a lent buffer. Rule 47.
use Rattle.std.specs.Prelude.{◌≡◌, List, [], ◌∷◌, ◌++◌, ◌&&◌, cond, ℕ, ◌-◌, eqb, length, replicate, Result, Ok, Err}
use Rattle.refusals.specs.declared.Refusal.{Refusal}
use Rattle.file_records.specs.Conversions.{converted, answer}

-- the result with zeros after it, 8,192 bytes in all
unfoldable pub padded : ℕ → List ℕ → List ℕ
padded target f = converted target f ++ replicate (8192 - length (converted target f)) 0

-- the length of a result, 0 if refused
abbrev pub size_of : Result ℕ Refusal → ℕ
size_of (Ok size) = size
size_of (Err e) = 0

-- the whole contract over a lent buffer: the number, 1 for a buffer of another size, and the result's length, 0 if refused; the buffer holds the
-- result and zeros after it, and if refused it is kept
pub record Converted (source target : ℕ) (f old new : List ℕ) (number size : ℕ) : Type 0 where
  pub answered : number ≡ cond (eqb (length old) 8192) (answer source target f) 1
  pub done : number ≡ 0 → (size ≡ length (converted target f)) × (new ≡ padded target f)
  pub refused : (number ≡ 0 → ⊥) → (size ≡ 0) × (new ≡ old)

-- the same with the length in a lent word: a list of another size is a 1, and nothing is written then
pub record ConvertedInto (source target : ℕ) (f old new before after : List ℕ) (number : ℕ) : Type 0 where
  pub answered : number ≡ cond (eqb (length before) 1 && eqb (length old) 8192) (answer source target f) 1
  pub done : number ≡ 0 → (after ≡ length (converted target f) ∷ []) × (new ≡ padded target f)
  pub wrong : number ≡ 1 → (after ≡ before) × (new ≡ old)
  pub refused : (number ≡ 0 → ⊥) → (number ≡ 1 → ⊥) → (after ≡ 0 ∷ []) × (new ≡ old)
