-- Tests of every element of a list and of every number below a bound, a list with a part of it replaced, and the list of a function's values.
use Rattle.std.specs.Prelude.{List, [], ◌∷◌, ◌++◌, Bool, true, ◌&&◌, ℕ, zero, suc, ◌+◌, length, take, drop}

-- p holds of each element
unfoldable pub all : {A : Type 0} → (A → Bool) → List A → Bool
all p [] = true
all p (x ∷ xs) = p x && all p xs

-- p holds of each number below n
unfoldable pub all_below : ℕ → (ℕ → Bool) → Bool
all_below zero p = true
all_below (suc n) p = all_below n p && p n

-- the table with the words from a place on replaced by others
unfoldable pub splice : List ℕ → ℕ → List ℕ → List ℕ
splice t at ws = take at t ++ (ws ++ drop (at + length ws) t)

-- the values of f at the numbers below n, in order
unfoldable pub up_to : {A : Type 0} → ℕ → (ℕ → A) → List A
up_to zero f = []
up_to (suc n) f = up_to n f ++ (f n ∷ [])
