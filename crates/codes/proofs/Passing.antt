-- Blocks that a straight is beside, four at a time.
use mathlib.Core.List.{List}
use Prim.Native.Nat.{ℕ, ◌+◌, ◌≤◌}
use native.Mathlib.Decide.{dec_lt}
use native.Mathlib.Omega.{arith}
use Rattle.codes.specs.inner.Codes.{BesideAll, PassedBy}

module _ (codes : List ℕ) (i j from : ℕ) where
  pub pass_none : from ≤ 24 → PassedBy codes i j from from
  pass_none h = record { after = omega arith; small = h; all = λ n l m. absurd (omega arith) }

  pub pass_four : (n : ℕ) → n ≤ 20 → BesideAll codes i j n (n + 4) → PassedBy codes i j from n → PassedBy codes i j from (n + 4)
  pass_four n h a p =
      record {
        after = omega (arith, p.after);
        small = omega arith;
        all = λ k l m. elim (dec_lt k n) [ yes b ↦ p.all k l b | no b ↦ a k (omega arith) m ];
      }
