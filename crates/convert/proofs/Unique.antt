-- The contracts of a conversion leave no choice.
use mathlib.Core.Path.{◌≡◌, sym, ◌∙◌}
use mathlib.Core.List.{List}
use Prim.Native.Nat.{ℕ}
use native.Mathlib.Decide.{ℕ_discrete}
use Rattle.convert.specs.Convert.{Converted, ConvertedInto}

pub converted_unique : {v w : ℕ} {f old new new' : List ℕ} {n n' size size' : ℕ} → Converted v w f old new n size → Converted v w f old new' n' size'
    → (n ≡ n') × (size ≡ size') × (new ≡ new')
converted_unique {new = new} {new'} {n} {n'} {size} {size'} p q = go (ℕ_discrete n 0)
  where
    same : n ≡ n'
    same = p.answered ∙ sym q.answered

    go : Dec (n ≡ 0) → (n ≡ n') × (size ≡ size') × (new ≡ new')
    go (yes z) =
        let a = p.done z in
        let b = q.done (sym same ∙ z) in
        (same, a.0 ∙ sym b.0, a.1 ∙ sym b.1)
    go (no z) =
        let a = p.refused z in
        let b = q.refused (λ e. z (same ∙ e)) in
        (same, a.0 ∙ sym b.0, a.1 ∙ sym b.1)

pub converted_into_unique : {v w : ℕ} {f old new new' before after after' : List ℕ} {n n' : ℕ} → ConvertedInto v w f old new before after n
    → ConvertedInto v w f old new' before after' n' → (n ≡ n') × (after ≡ after') × (new ≡ new')
converted_into_unique {new = new} {new'} {after = after} {after'} {n} {n'} p q = go (ℕ_discrete n 0) (ℕ_discrete n 1)
  where
    same : n ≡ n'
    same = p.answered ∙ sym q.answered

    go : Dec (n ≡ 0) → Dec (n ≡ 1) → (n ≡ n') × (after ≡ after') × (new ≡ new')
    go (yes z) d =
        let a = p.done z in
        let b = q.done (sym same ∙ z) in
        (same, a.0 ∙ sym b.0, a.1 ∙ sym b.1)
    go (no z) (yes o) =
        let a = p.wrong o in
        let b = q.wrong (sym same ∙ o) in
        (same, a.0 ∙ sym b.0, a.1 ∙ sym b.1)
    go (no z) (no o) =
        let a = p.refused z o in
        let b = q.refused (λ e. z (same ∙ e)) (λ e. o (same ∙ e)) in
        (same, a.0 ∙ sym b.0, a.1 ∙ sym b.1)
