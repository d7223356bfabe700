-- The rows word by word, and the bits of one word from the lowest up: those whose corners have H are taken away.
use mathlib.Core.Path.{◌≡◌, refl, sym, ap, subst, ◌∙◌}
use mathlib.Core.Bool.{Bool, true, false, true≢false}
use mathlib.Core.List.{List}
use Prim.Native.Nat.{ℕ, ◌+◌, ◌*◌, ◌<◌, ◌≤◌}
use native.Mathlib.Decide.{ℕ_discrete}
use native.Mathlib.Omega.{arith}
use lib.ListN.{length, set, length-set}
use lib.Seq.{get_or-set_same, get_or-set_other}
use Rattle.lists.specs.inner.Tells.{Tells}
use Rattle.geometry.specs.Words.{word}
use Rattle.bits.specs.inner.Bits.{bit, Lowest, WithoutLowest, Without}
use Rattle.bits.proofs.Counting.{bit_zero, bit_small}
use Rattle.clear_rows.specs.inner.Sparing.{WordFor, AllSay, Kept, Changed, WithoutIf}

-- ---- the words
pub changed_none : (Q : ℕ → ℕ → ℕ → Type 0) (old : List ℕ) → length old ≡ 720 → Changed Q old old 0
changed_none Q old l = record { sized = l; done = λ k h. absurd (omega arith); due = λ k h m. refl }

pub changed_next : (Q : ℕ → ℕ → ℕ → Type 0) (old new : List ℕ) (n x : ℕ) → Changed Q old new n → n < 720 → Q n (word new n) x → Changed Q old (set new n x) (n + 1)
changed_next Q old new n x c l q =
    record {
      sized = length-set new n x ∙ c.sized;
      done = λ k h. done k h (ℕ_discrete k n);
      due = λ k h m. get_or-set_other new n k x 0 (omega arith) ∙ c.due k (omega arith) m;
    }
  where
    here : Q n (word old n) (word (set new n x) n)
    here = rw (get_or-set_same new n x 0 (omega (arith, c.sized)), ← c.due n (omega arith) l) q

    done : (k : ℕ) → k < n + 1 → Dec (k ≡ n) → Q k (word old k) (word (set new n x) k)
    done k h (yes e) = rw e here
    done k h (no e) = rw (get_or-set_other new n k x 0 e) (c.done k (omega arith))

pub changed_all : (Q : ℕ → ℕ → ℕ → Type 0) (old new : List ℕ) (n : ℕ) → Changed Q old new n → 720 ≤ n → Changed Q old new 720
changed_all Q old new n c l = record { sized = c.sized; done = λ k h. c.done k (omega arith); due = λ k h m. absurd (omega arith) }

pub all_said : (P : ℕ → ℕ → Type 0) (old new : List ℕ) (n : ℕ) → Changed (λ k x y. WordFor P k y) old new n → 720 ≤ n → AllSay P new
all_said P old new n c l = record { sized = c.sized; each = λ k h. c.done k (omega arith) }

-- ---- the bits
pub without_yes : {c b r : ℕ} {t : Bool} → t ≡ true → Without c b r → WithoutIf c b t r
without_yes e w = record { gone = λ x. w; same = λ x. absurd (true≢false (sym e ∙ x)) }

pub without_no : {c b : ℕ} {t : Bool} → t ≡ false → WithoutIf c b t c
without_no e = record { gone = λ x. absurd (true≢false (sym x ∙ e)); same = λ x. refl }

pub kept_none : (H : ℕ → Type 0) (q w : ℕ) → w ≡ 0 → Kept H q w 0
kept_none H q w e =
    record {
      each = λ i l. record {
        small = bit_small i 0;
        yes' = λ x. absurd (omega (arith, x, bit_zero i));
        no' = λ x. sym (ap (bit i) e) ∙ x.0;
      };
    }

-- r has bits of w; those that are not in `rest` are those without H
pub record Sifting (H : ℕ → Type 0) (q w r rest : ℕ) : Type 0 where
  pub only : (i : ℕ) → bit i r ≡ 1 → bit i w ≡ 1
  pub clean : (i : ℕ) → i < 64 → bit i r ≡ 1 → bit i rest ≡ 0 → H (64 * q + i) → ⊥
  pub stays : (i : ℕ) → bit i w ≡ 1 → (H (64 * q + i) → ⊥) → bit i r ≡ 1

pub sifting_from : (H : ℕ → Type 0) (q w rest : ℕ) → ((i : ℕ) → i < 64 → bit i w ≡ 1 → bit i rest ≡ 0 → H (64 * q + i) → ⊥) → Sifting H q w w rest
sifting_from H q w rest f = record { only = λ i x. x; clean = f; stays = λ i x h. x }

pub sifting_whole : (H : ℕ → Type 0) (q w : ℕ) → Sifting H q w w w
sifting_whole H q w = sifting_from H q w w (λ i l x y. absurd (omega (arith, x, y)))

module _ {H : ℕ → Type 0} {q w r rest : ℕ} (s : Sifting H q w r rest) where
  pub sifting_all : rest ≤ 0 → Kept H q w r
  sifting_all z =
      let e : rest ≡ 0 = omega arith in
      record {
        each = λ i l. record {
          small = bit_small i r;
          yes' = λ x. (s.only i x, s.clean i l x (ap (bit i) e ∙ bit_zero i));
          no' = λ x. s.stays i x.0 x.1;
        };
      }

  module _ {z rest' : ℕ} (lo : Lowest rest z) (n : WithoutLowest rest rest') where
    keep : (H (64 * q + z) → ⊥) → Sifting H q w r rest'
    keep f = record { only = s.only; clean = λ i l x y. go i l x y (ℕ_discrete i z); stays = s.stays }
      where
        go : (i : ℕ) → i < 64 → bit i r ≡ 1 → bit i rest' ≡ 0 → Dec (i ≡ z) → H (64 * q + i) → ⊥
        go i l x y (yes e) = subst (λ (j : ℕ). H (64 * q + j) → ⊥) (sym e) f
        go i l x y (no e) = s.clean i l x (sym (n.rest z i lo e) ∙ y)

    drop : {r' : ℕ} → H (64 * q + z) → Without r z r' → Sifting H q w r' rest'
    drop {r'} h o =
        record {
          only = λ i x. s.only i (before i x);
          clean = λ i l x y. s.clean i l (before i x) (sym (n.rest z i lo (off i x)) ∙ y);
          stays = λ i x f. go i x f (ℕ_discrete i z);
        }
      where
        off : (i : ℕ) → bit i r' ≡ 1 → i ≡ z → ⊥
        off i x e = omega (arith, x, ap (λ (j : ℕ). bit j r') e, o.here)

        before : (i : ℕ) → bit i r' ≡ 1 → bit i r ≡ 1
        before i x = sym (o.rest i (off i x)) ∙ x

        go : (i : ℕ) → bit i w ≡ 1 → (H (64 * q + i) → ⊥) → Dec (i ≡ z) → bit i r' ≡ 1
        go i x f (yes e) = absurd (f (subst (λ (j : ℕ). H (64 * q + j)) (sym e) h))
        go i x f (no e) = o.rest i e ∙ s.stays i x f

    -- by the answer of a test
    pub sifting_next : {t : Bool} {r' : ℕ} → Tells (H (64 * q + z)) t → WithoutIf r z t r' → Sifting H q w r' rest'
    sifting_next {t} {r'} a o = go t refl
      where
        go : (v : Bool) → t ≡ v → Sifting H q w r' rest'
        go true e = drop (a.yes' e) (o.gone e)
        go false e = rw (o.same e) (keep (a.no' e))
