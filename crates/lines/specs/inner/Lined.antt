-- Lists of lines as they are collected.
use Rattle.std.specs.Prelude.{◌≡◌, List, [], ◌∷◌, ℕ, suc, ◌+◌, ◌≤◌, length, take}
use Rattle.lines.specs.Lines.{insert}

-- an increasing list of numbers that are at least b
pub data Rising : ℕ → List ℕ → Type 0 where
  none : {b : ℕ} → Rising b []
  then : {b x : ℕ} {xs : List ℕ} → b ≤ x → Rising (suc x) xs → Rising b (x ∷ xs)

-- the list before and after x was put among its first n, of which there are now r
pub record Lined (old : List ℕ) (n x : ℕ) (new : List ℕ) (r : ℕ) : Type 0 where
  pub sized : length new ≡ length old
  pub count : r ≤ n + 1
  pub is : take r new ≡ insert x (take n old)

-- the first r of a list of 194 words are the lines
pub record Collected (lines new : List ℕ) (r : ℕ) : Type 0 where
  pub sized : length new ≡ 194
  pub count : r ≤ 194
  pub is : take r new ≡ lines
