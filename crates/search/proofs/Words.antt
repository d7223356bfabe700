-- The marks of a word, relaxed from its lowest bit up.
use mathlib.Core.Path.{◌≡◌, refl, sym, ap, ◌∙◌}
use mathlib.Core.Logic.{◌⊎◌, inl, inr}
use mathlib.Core.List.{List}
use Prim.Native.Nat.{ℕ, ◌+◌, ◌≤◌}
use native.Mathlib.Decide.{ℕ_discrete}
use native.Mathlib.Omega.{arith}
use Rattle.bits.specs.inner.Bits.{bit, Lowest, WithoutLowest}
use Rattle.bits.proofs.Counting.{bit_zero}
use Rattle.search.specs.inner.Parts.{Parted, Passed, Marked}
use Rattle.search.proofs.Parts.{passed_none, passed_both, passed_under}

-- the marks whose bits `rest` no longer has are relaxed
pub record Passing (bound most : ℕ → ℕ) (w base : ℕ) (W S K W' S' K' T' : List ℕ) (u n rest : ℕ) : Type 0 where
  pub passed : Passed bound most (λ v. Marked w base v × (Marked rest base v → ⊥)) W S K W' S' K' T' u n
  pub within : (v : ℕ) → Marked rest base v → Marked w base v

pub passing_none : {bound most : ℕ → ℕ} {w base : ℕ} {W S K T : List ℕ} {u n : ℕ} → Parted bound W S K T u n → Passing bound most w base W S K W S K T u n w
passing_none p = record { passed = passed_none p (λ v o m. m.1 m.0); within = λ v m. m }

module _ {bound most : ℕ → ℕ} {w base : ℕ} {W S K W' S' K' T' : List ℕ} {u n rest : ℕ} (x : Passing bound most w base W S K W' S' K' T' u n rest) where
  module _ {z : ℕ} (lowest : Lowest rest z) where
    pub next_marked : Marked w base (base + z)
    next_marked = x.within (base + z) (record { at = z; is = refl; set = lowest.set })

    pub passing_next : {W'' S'' K'' T'' : List ℕ} {u' rest' : ℕ} → Passed bound most (λ v. v ≡ base + z) W' S' K' W'' S'' K'' T'' u' n → WithoutLowest rest rest'
        → Passing bound most w base W S K W'' S'' K'' T'' u' n rest'
    passing_next {rest' = rest'} y fewer =
        record { passed = passed_under (λ v. to v) (λ v o m. from v m (ℕ_discrete v (base + z))) (passed_both x.passed y); within = λ v m. x.within v (before v m) }
      where
        not_lowest : (v : ℕ) (m : Marked rest' base v) → m.at ≡ z → ⊥
        not_lowest v m e = omega (arith, m.set, ap (λ (k : ℕ). bit k rest') e, fewer.here z lowest)

        before : (v : ℕ) → Marked rest' base v → Marked rest base v
        before v m = record { at = m.at; is = m.is; set = sym (fewer.rest z m.at lowest (not_lowest v m)) ∙ m.set }

        to : (v : ℕ) → (Marked w base v × (Marked rest base v → ⊥)) ⊎ (v ≡ base + z) → Marked w base v × (Marked rest' base v → ⊥)
        to v (inl m) = (m.0, λ r. m.1 (before v r))
        to v (inr e) = (record { at = next_marked.at; is = next_marked.is ∙ sym e; set = next_marked.set }, λ r. not_lowest v r (omega (arith, r.is)))

        from : (v : ℕ) → Marked w base v × (Marked rest' base v → ⊥) → Dec (v ≡ base + z) → (Marked w base v × (Marked rest base v → ⊥)) ⊎ (v ≡ base + z)
        from v m (yes e) = inr e
        from v m (no e) = inl (m.0, λ r. m.1 (record { at = r.at; is = r.is; set = fewer.rest z r.at lowest (λ q. e (omega (arith, r.is))) ∙ r.set }))

  pub passing_all : rest ≤ 0 → Passed bound most (Marked w base) W S K W' S' K' T' u n
  passing_all l = passed_under (λ v m. m.0) (λ v o m. (m, λ r. none v r)) x.passed
    where
      none : (v : ℕ) → Marked rest base v → ⊥
      none v r = let e : rest ≡ 0 = omega arith in omega (arith, r.set, ap (bit r.at) e, bit_zero r.at)
