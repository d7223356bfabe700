-- The byte of one pair after an edit of a block, from the answers that the code gets.
use mathlib.Core.Path.{◌≡◌, refl}
use mathlib.Core.List.{List}
use mathlib.Core.Bool.{Bool, true, false, and-false}
use Prim.Native.Nat.{ℕ, ◌<◌}
use native.Mathlib.Omega.{arith}
use Rattle.std.specs.Prelude.{None}
use Rattle.lists.specs.inner.Tells.{Tells}
use Rattle.tables.specs.Tables.{Records, stored, present}
use Rattle.codes.specs.inner.Codes.{Coded, Beside}
use Rattle.codes.proofs.Hiding.{beside_unhidden}
use Rattle.visibility.specs.Visibility.{Hides, both_present, PairIs, absent, Afresh, BlockPair}
use Rattle.block_bytes.specs.inner.Aids.{KnownMark}

-- an edit of block n
module _ (R : Records) (i j n old : ℕ) where
  pub pair_fresh : (t : Bool) (byte : ℕ) → Tells (Afresh n i j old) t → t ≡ true → PairIs R i j byte → BlockPair R n i j old byte
  pair_fresh t byte f e p =
      record { fresh = λ q. p; covered = λ x. absurd (x (f.yes' e)); kept = λ x. absurd (x (f.yes' e)) }

  module _ (t : Bool) (f : Tells (Afresh n i j old) t) (e : t ≡ false) where
    keeps : (both_present R i j ≡ true → n < old → Hides R n i j → ⊥) → BlockPair R n i j old old
    keeps h = record { fresh = λ q. absurd (f.no' e q); covered = λ x z l g. absurd (h z l g); kept = λ x g. refl }

    pub pair_lower : old < n → BlockPair R n i j old old
    pair_lower l = keeps (λ z (m : n < old) h. omega arith)

    pair_unhidden : (Hides R n i j → ⊥) → BlockPair R n i j old old
    pair_unhidden x = keeps (λ z l h. x h)

pub fresh_high : (R : Records) (i j : ℕ) → KnownMark R j None → PairIs R i j 255
fresh_high R i j m = absent (rw m (and-false (present R i))) refl

pub pair_beside : (blocks runs codes : List ℕ) (n i j old : ℕ) (t s : Bool) → Coded (stored blocks runs) codes → n < 24 → i < 240 → j < 240 → Tells (Afresh n i j old) t → t ≡ false
    → Tells (Beside codes n i j) s → s ≡ true → BlockPair (stored blocks runs) n i j old old
pair_beside blocks runs codes n i j old t s c hn hi hj f e x d =
    pair_unhidden (stored blocks runs) i j n old t f e (beside_unhidden blocks runs codes c n i j hn hi hj _ _ refl refl (x.yes' d))
