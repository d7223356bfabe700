-- The answer of a conversion, one law for each way out of the code.
use mathlib.Core.Path.{◌≡◌, sym, ◌∙◌}
use mathlib.Core.List.{List}
use mathlib.Core.Bool.{Bool, true, false, ◌||◌}
use Prim.Native.Nat.{ℕ, ◌<◌, ◌≤◌}
use native.Mathlib.Omega.{arith}
use lib.Dec.{eqb}
use lib.ListN.{length}
use borrow.Author.Tests.{eq-eqb, ne_eqb, le-leb, lt-leb}
use Rattle.file_words.specs.Words.{byte}
use Rattle.yardfile.specs.File.{head_right}
use Rattle.file_records.specs.Conversions.{converted, answer}
use Rattle.file_records.specs.inner.Asked.{everyone}
use Rattle.file_records.proofs.Files.{answer_is}

module _ (v w : ℕ) (f : List ℕ) (t : Bool) (e : t ≡ head_right f) where
  pub answer_head : t ≡ false → 9 ≡ answer v w f
  answer_head h = sym (answer_is v w f ∙ rw (sym e ∙ h))

  module _ (right : t ≡ true) (k : ℕ) (p : k ≡ byte f 3) where
    pub answer_version : (k ≡ v → ⊥) → 9 ≡ answer v w f
    answer_version h = sym (answer_is v w f ∙ rw (sym e ∙ right, ne_eqb (byte f 3) v (λ z. h (p ∙ z))))

    module _ (same : k ≡ v) (a : Bool) (q : a ≡ everyone 10 f) where
      pub answer_whole : a ≡ false → 10 ≡ answer v w f
      answer_whole h = sym (answer_is v w f ∙ rw (sym e ∙ right, eq-eqb (byte f 3) v (sym p ∙ same), sym q ∙ h))

      module _ (ya : a ≡ true) (b : Bool) (r : b ≡ (eqb w 1 || everyone 21 f)) where
        pub answer_near : b ≡ false → 21 ≡ answer v w f
        answer_near h = sym (answer_is v w f ∙ rw (sym e ∙ right, eq-eqb (byte f 3) v (sym p ∙ same), sym q ∙ ya, sym r ∙ h))

        module _ (yb : b ≡ true) (d : Bool) (s : d ≡ everyone 22 f) where
          pub answer_inside : d ≡ false → 22 ≡ answer v w f
          answer_inside h = sym (answer_is v w f ∙ rw (sym e ∙ right, eq-eqb (byte f 3) v (sym p ∙ same), sym q ∙ ya, sym r ∙ yb, sym s ∙ h))

          module _ (yd : d ≡ true) (n : ℕ) (u : n ≡ length (converted w f)) where
            pub answer_long : 8192 < n → 9 ≡ answer v w f
            answer_long h = sym (answer_is v w f ∙ rw (sym e ∙ right, eq-eqb (byte f 3) v (sym p ∙ same), sym q ∙ ya, sym r ∙ yb, sym s ∙ yd, lt-leb (length (converted w f)) 8192 (omega arith)))

            pub answer_done : n ≤ 8192 → 0 ≡ answer v w f
            answer_done h = sym (answer_is v w f ∙ rw (sym e ∙ right, eq-eqb (byte f 3) v (sym p ∙ same), sym q ∙ ya, sym r ∙ yb, sym s ∙ yd, le-leb (length (converted w f)) 8192 (omega arith)))
