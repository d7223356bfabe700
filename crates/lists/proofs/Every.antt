-- Tests joined by "and" and "or", and tests of every element of a list.
use mathlib.Core.Path.{◌≡◌, refl}
use mathlib.Core.Logic.{◌⊎◌, inl, inr}
use mathlib.Core.List.{List, [], ◌∷◌, ◌++◌}
use mathlib.Core.Bool.{Bool, true, false, ◌&&◌, ◌||◌, and-false, and-eq-true_iff}
use Prim.Native.Nat.{ℕ, zero, suc, ◌<◌}
use native.Mathlib.Omega.{arith}
use lib.ListN.{length, get_or, replicate}
use Rattle.lists.specs.Lists.{all}

pub both : (a b : Bool) → a && b ≡ true → (a ≡ true) × (b ≡ true)
both a b h = (and-eq-true_iff a b).0 h

pub and_yes : (a b : Bool) → a ≡ true → b ≡ true → a && b ≡ true
and_yes a b p q = (and-eq-true_iff a b).1 (p, q)

pub or_cases : (a b : Bool) → a || b ≡ true → (a ≡ true) ⊎ (b ≡ true)
or_cases true b h = inl refl
or_cases false b h = inr h

module _ {A : Type 0} (p : A → Bool) where
  pub every_yes : (xs : List A) (d : A) → ((k : ℕ) → k < length xs → p (get_or xs k d) ≡ true) → all p xs ≡ true
  unfolding all
  every_yes [] d h = refl
  every_yes (x ∷ xs) d h = rw (h 0 (omega arith), every_yes xs d (λ k l. h (suc k) (omega arith)))

  pub every_no : (xs : List A) (k : ℕ) (d : A) → k < length xs → p (get_or xs k d) ≡ false → all p xs ≡ false
  unfolding all
  every_no [] k d h e = absurd (omega arith)
  every_no (x ∷ xs) zero d h e = rw e
  every_no (x ∷ xs) (suc k) d h e = rw (every_no xs k d (omega arith) e) (and-false (p x))

  pub every_at : (xs : List A) (k : ℕ) (d : A) → all p xs ≡ true → k < length xs → p (get_or xs k d) ≡ true
  unfolding all
  every_at [] k d h l = absurd (omega arith)
  every_at (x ∷ xs) zero d h l = (both (p x) (all p xs) h).0
  every_at (x ∷ xs) (suc k) d h l = every_at xs k d (both (p x) (all p xs) h).1 (omega arith)

  -- also past the end, where the default passes
  pub every_read : (xs : List A) (k : ℕ) (d : A) → all p xs ≡ true → p d ≡ true → p (get_or xs k d) ≡ true
  unfolding all
  every_read [] k d h e = e
  every_read (x ∷ xs) zero d h e = (both (p x) (all p xs) h).0
  every_read (x ∷ xs) (suc k) d h e = every_read xs k d (both (p x) (all p xs) h).1 e

  pub every_append : (xs ys : List A) → all p xs ≡ true → all p ys ≡ true → all p (xs ++ ys) ≡ true
  unfolding all
  every_append [] ys h k = k
  every_append (x ∷ xs) ys h k = and_yes (p x) (all p (xs ++ ys)) (both (p x) (all p xs) h).0 (every_append xs ys (both (p x) (all p xs) h).1 k)

  pub every_replicate : (n : ℕ) (x : A) → p x ≡ true → all p (replicate n x) ≡ true
  unfolding all
  every_replicate zero x h = refl
  every_replicate (suc n) x h = and_yes (p x) _ h (every_replicate n x h)
