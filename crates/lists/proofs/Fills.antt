-- A list that a loop fills from the front, one store a turn. One law for every kind of element.
use mathlib.Core.Path.{◌≡◌, refl, sym, subst, ◌∙◌}
use mathlib.Core.List.{List}
use Prim.Native.Nat.{ℕ, ◌+◌, ◌<◌, ◌≤◌}
use native.Mathlib.Decide.{dec_lt}
use native.Mathlib.Omega.{arith}
use lib.ListN.{length, get_or, set, replicate, length-set, length-replicate}
use lib.Seq.{get_or-set_same, get_or-set_other, ext_get_or}
use Rattle.std.proofs.lemmas.List.{get_or-replicate}
use Rattle.lists.specs.inner.Filled.{filled}

-- the first i are v
pub record FilledTo {A : Type 0} (v : A) (old new : List A) (i : ℕ) : Type 0 where
  pub sized : length new ≡ length old
  pub past : (k : ℕ) → k < i → get_or new k v ≡ v

pub fill_none : {A : Type 0} (v : A) (old : List A) → FilledTo v old old 0
fill_none v old = record { sized = refl; past = λ k h. absurd (omega arith) }

pub fill_next : {A : Type 0} (v : A) (old new : List A) (i : ℕ) → i < length old → FilledTo v old new i → FilledTo v old (set new i v) (i + 1)
fill_next {A} v old new i l f =
    record {
      sized = length-set new i v ∙ f.sized;
      past = λ k h.
          elim (dec_lt k i) [
            | yes s ↦ get_or-set_other new i k v v (omega arith) ∙ f.past k s
            | no s ↦ let q : i ≡ k = omega arith in subst (λ (j : ℕ). get_or (set new i v) j v ≡ v) q (get_or-set_same new i v v (omega (arith, f.sized, l)))
          ];
    }

pub fill_all : {A : Type 0} (v : A) (old new : List A) (i : ℕ) → length old ≤ i → FilledTo v old new i → new ≡ filled (length old) v
unfolding filled
fill_all v old new i l f =
    ext_get_or v new (replicate (length old) v) (f.sized ∙ sym (length-replicate (length old) v))
    (λ k h. f.past k (omega arith) ∙ sym (get_or-replicate (length old) k v v (omega (arith, f.sized))))
