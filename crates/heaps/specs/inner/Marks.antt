-- A list of marks, and what stands where in it.
use Rattle.std.specs.Prelude.{◌≡◌, List, ℕ, ◌≤◌, ◌<◌, length}
use Rattle.geometry.specs.Words.{word}

-- v stands in the list at a place from lo on and before hi
pub record Among (order : List ℕ) (lo hi v : ℕ) : Type 0 where
  pub place : ℕ
  pub from : lo ≤ place
  pub before : place < hi
  pub is : word order place ≡ v

-- the first n of the list are different
abbrev pub Once : List ℕ → ℕ → Type 0
Once order n = (i j : ℕ) → i < n → j < n → word order i ≡ word order j → i ≡ j

-- the places i and j of the list are exchanged
pub record Swapped (old new : List ℕ) (i j : ℕ) : Type 0 where
  pub sized : length new ≡ length old
  pub first : word new i ≡ word old j
  pub second : word new j ≡ word old i
  pub others : (k : ℕ) → (k ≡ i → ⊥) → (k ≡ j → ⊥) → word new k ≡ word old k
