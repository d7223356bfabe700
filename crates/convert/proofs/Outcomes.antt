-- The outcome of a conversion, one law for each way out of the code.
use mathlib.Core.Path.{◌≡◌, refl, sym, ap, ◌∙◌}
use mathlib.Core.List.{List, [], ◌∷◌, ◌++◌}
use mathlib.Core.Bool.{true}
use Prim.Native.Nat.{ℕ, ◌-◌, ◌≤◌}
use native.Mathlib.Omega.{arith}
use native.Mathlib.Decide.{ℕ_discrete}
use lib.ListN.{length, take, replicate, length-take}
use borrow.Author.Tests.{eq-eqb, ne_eqb}
use Rattle.yardfile.proofs.Cases.{head_pieces}
use Rattle.file_records.specs.Conversions.{converted, answer}
use Rattle.file_records.specs.inner.Asked.{everyone}
use Rattle.file_records.proofs.Trip.{Accepted, accepted}
use Rattle.convert.specs.Convert.{padded, Converted, ConvertedInto}
use Rattle.convert.specs.inner.Put.{SizePut}

module _ (v w : ℕ) (f old : List ℕ) where
  pub refused_one : (length old ≡ 8192 → ⊥) → Converted v w f old old 1 0
  refused_one h = record { answered = rw (ne_eqb (length old) 8192 h); done = λ z. absurd (omega arith); refused = λ z. (refl, refl) }

  module _ (l : length old ≡ 8192) (n : ℕ) (e : n ≡ answer v w f) where
    pub refused_other : (n ≡ 0 → ⊥) → Converted v w f old old n 0
    refused_other h = record { answered = rw (eq-eqb (length old) 8192 l) e; done = λ z. absurd (h z); refused = λ z. (refl, refl) }

    pub done_all : (mid new : List ℕ) (size : ℕ) → n ≡ 0 → length mid ≡ length old → size ≡ length (converted w f) → take size mid ≡ converted w f
        → new ≡ take size mid ++ replicate (length mid - size) 0 → Converted v w f old new 0 size
    unfolding padded
    done_all mid new size z m s t c =
        let k : length mid ≡ 8192 = m ∙ l in
        record { answered = rw (eq-eqb (length old) 8192 l) (sym z ∙ e); done = λ h. (s, rw (t, k, s) at c); refused = λ h. absurd (h refl) }

module _ (v w : ℕ) (f : List ℕ) (n : ℕ) (e : n ≡ answer v w f) (z : n ≡ 0) where
  right : Accepted v w f
  right = accepted v w f (sym e ∙ z)

  pub source_small : length f ≤ 8192
  source_small = (head_pieces f right.head).high

  pub source_low : 5 ≤ length f
  source_low = (head_pieces f right.head).low

  pub source_whole : everyone 10 f ≡ true
  source_whole = right.whole

  pub result_fits : (m : ℕ) → m ≡ 8192 → length (converted w f) ≤ m
  result_fits m h = omega (arith, right.short)

pub taken_fits : (mid xs : List ℕ) (n : ℕ) → n ≡ length xs → take n mid ≡ xs → n ≤ length mid
taken_fits mid xs n e h = omega (arith, length-take n mid, ap length h)

module _ (v w : ℕ) (f old before : List ℕ) where
  pub into_wrong : (length before ≡ 1 → ⊥) → ConvertedInto v w f old old before before 1
  into_wrong h =
      record {
        answered = rw (ne_eqb (length before) 1 h);
        done = λ z. absurd (omega arith);
        wrong = λ z. (refl, refl);
        refused = λ z k. absurd (k refl);
      }

  module _ (new : List ℕ) (n size : ℕ) (c : Converted v w f old new n size) where
    pub size_small : size ≤ 8192
    size_small = go (ℕ_discrete n 0)
      where
        sized : Dec (length old ≡ 8192) → n ≡ 0 → answer v w f ≡ 0
        sized (yes l) z = sym (rw (eq-eqb (length old) 8192 l) at c.answered) ∙ z
        sized (no l) z = absurd (omega (arith, rw (ne_eqb (length old) 8192 l) at c.answered))

        go : Dec (n ≡ 0) → size ≤ 8192
        go (yes z) = omega (arith, (c.done z).0, (accepted v w f (sized (ℕ_discrete (length old) 8192) z)).short)
        go (no z) = omega (arith, (c.refused z).0)

    pub into_done : (after : List ℕ) (m : ℕ) → length before ≡ 1 → (m ≡ n) × SizePut n size before after → ConvertedInto v w f old new before after m
    into_done after m l q =
        let p = q.1 in
        rw q.0
        (record {
          answered = rw (eq-eqb (length before) 1 l) c.answered;
          done = λ z. (p.put (λ e. omega arith) ∙ ap (λ (x : ℕ). x ∷ []) (c.done z).0, (c.done z).1);
          wrong = λ e. (p.kept e, (c.refused (λ z. omega arith)).1);
          refused = λ z k. (p.put k ∙ ap (λ (x : ℕ). x ∷ []) (c.refused z).0, (c.refused z).1);
        })
