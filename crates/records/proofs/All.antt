-- What the chain `xs.iter().all(..)` answers is `all` of the list.
use mathlib.Core.Path.{◌≡◌, refl, sym}
use mathlib.Core.List.{List}
use mathlib.Core.Bool.{Bool, true, false}
use Prim.Native.Nat.{ℕ, ◌<◌}
use lib.ListN.{length, get_or}
use Rattle.std.proofs.Common.{◌↔◌, IsTrue}
use Rattle.lists.specs.Lists.{all}
use Rattle.lists.proofs.Every.{every_yes, every_at}

-- by a fact P of an item that holds where the test p is true, and there alone
module _ (p : ℕ → Bool) (P : ℕ → Type 0) (yes : (x : ℕ) → P x → p x ≡ true) (no : (x : ℕ) → p x ≡ true → P x) where
  pub all_told : (xs : List ℕ) (r : Bool) → (IsTrue r ↔ ((k : ℕ) → k < length xs → P (get_or xs k 0))) → r ≡ all p xs
  all_told xs true h = sym (every_yes p xs 0 (λ k l. yes (get_or xs k 0) (h.0 refl k l)))
  all_told xs false h = go (all p xs) refl
    where
      go : (b : Bool) → all p xs ≡ b → false ≡ all p xs
      go true e = let q : false ≡ true = h.1 (λ k l. no (get_or xs k 0) (every_at p xs k 0 e l)) in cc
      go false e = sym e
