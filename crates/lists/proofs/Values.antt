-- The list of a function's values.
use mathlib.Core.Path.{◌≡◌, refl, ◌∙◌}
use mathlib.Core.List.{[], ◌∷◌, ◌++◌}
use Prim.Native.Nat.{ℕ, zero, suc, ◌<◌}
use native.Mathlib.Omega.{arith}
use native.Mathlib.Decide.{dec_lt}
use lib.ListN.{length, get_or, length-append, get_or-append}
use lib.Seq.{get_or_at}
use Rattle.lists.specs.Lists.{up_to}

module _ {A : Type 0} (f : ℕ → A) where
  pub up_to_length : (n : ℕ) → length (up_to n f) ≡ n
  unfolding up_to
  up_to_length zero = refl
  up_to_length (suc n) = length-append (up_to n f) (f n ∷ []) ∙ omega (arith, up_to_length n)

  pub up_to_at : (n : ℕ) (d : A) (k : ℕ) → k < n → get_or (up_to n f) k d ≡ f k
  unfolding up_to
  up_to_at zero d k h = absurd (omega arith)
  up_to_at (suc n) d k h = go (dec_lt k n) (up_to_at n d k)
    where
      go : Dec (k < n) → (k < n → get_or (up_to n f) k d ≡ f k) → get_or (up_to n f ++ (f n ∷ [])) k d ≡ f k
      go (yes l) ih = get_or-append (up_to n f) (f n ∷ []) d k (omega (arith, up_to_length n)) ∙ ih l
      go (no l) ih =
          let e : k ≡ n = omega arith in
          rw e (get_or_at (up_to n f) (f n) [] d n (up_to_length n))
