-- A record, written and read back in either version.
use mathlib.Core.Path.{◌≡◌, refl, sym, ap, ◌∙◌}
use mathlib.Core.List.{List, ◌∷◌, ◌++◌}
use mathlib.Core.Bool.{true}
use Prim.Native.Nat.{ℕ, ◌+◌, ◌*◌, ◌/◌, ◌≤◌}
use native.Mathlib.Omega.{arith}
use native.Mathlib.Decide.{ℕ_discrete}
use lib.ListN.{length, drop, length-append, length-drop}
use borrow.Author.Tests.{eq-eqb, ne_eqb}
use Rattle.file_words.specs.Words.{byte, block_size, fields_from, corner_words, inside}
use Rattle.yardfile.specs.File.{plain_words, body_size, record_whole}
use Rattle.file_words.proofs.Sizes.{block_one}
use Rattle.yardfile.proofs.Cases.{body_block, body_plain, whole_kind, whole_fits, whole_true}
use Rattle.file_words.proofs.Corners.{fields_length, corners_length}
use Rattle.file_records.specs.Records.{Rec, next_at, words_at, rec_at, word_bytes, corner_bytes, body_bytes, rec_bytes}
use Rattle.file_records.specs.inner.Asked.{size_in}
use Rattle.file_records.specs.Conversions.{near, steps_right, places_right}
use Rattle.file_records.proofs.Words.{Bytes, one_at, two_at, drop_one, drop_two, fields_print, fields_parse, words_size}
use Rattle.file_records.proofs.Blocks.{corners_print, corners_near, corners_parse, corners_size}

-- the fields by kind
pub words_block : (f : List ℕ) (at : ℕ) → byte f at ≡ 1 → words_at f at ≡ corner_words f (at + 2)
unfolding words_at
words_block f at k = rw (eq-eqb (byte f at) 1 k)

pub words_plain : (f : List ℕ) (at : ℕ) → (byte f at ≡ 1 → ⊥) → words_at f at ≡ fields_from f (at + 2) (plain_words (byte f at))
unfolding words_at
words_plain f at k = rw (ne_eqb (byte f at) 1 k)

pub body_one : (v k : ℕ) (ws : List ℕ) → k ≡ 1 → body_bytes v k ws ≡ length ws / 2 ∷ corner_bytes v ws
unfolding body_bytes
body_one v k ws e = rw (eq-eqb k 1 e)

pub body_other : (v k : ℕ) (ws : List ℕ) → (k ≡ 1 → ⊥) → body_bytes v k ws ≡ word_bytes ws
unfolding body_bytes
body_other v k ws e = rw (ne_eqb k 1 e)

pub size_one : (v : ℕ) (f : List ℕ) (at : ℕ) → byte f at ≡ 1 → size_in v f at ≡ 2 + block_size v (byte f (at + 2))
unfolding size_in
size_one v f at k = rw (eq-eqb (byte f at) 1 k)

pub size_other : (v : ℕ) (f : List ℕ) (at : ℕ) → (byte f at ≡ 1 → ⊥) → size_in v f at ≡ 2 + 2 * plain_words (byte f at)
unfolding size_in
size_other v f at k = rw (ne_eqb (byte f at) 1 k)

pub size_same : (f : List ℕ) (at : ℕ) → size_in (byte f 3) f at ≡ 2 + body_size f at
unfolding size_in body_size
size_same f at = refl

half : (n c : ℕ) → n ≡ 2 * c → n / 2 ≡ c
half n c e = omega arith

pub rec_size : (v : ℕ) (f : List ℕ) (at : ℕ) → length (rec_bytes v (rec_at f at)) ≡ size_in v f at
rec_size v f at = go (ℕ_discrete (byte f at) 1)
  where
    go : Dec (byte f at ≡ 1) → length (rec_bytes v (rec_at f at)) ≡ size_in v f at
    go (yes k) =
        rw (size_one v f at k, body_one v (byte f at) (words_at f at) k, words_block f at k)
        (omega (arith, corners_size v (byte f (at + 2)) (corner_words f (at + 2)) (corners_length f (at + 2))))
    go (no k) =
        rw (size_other v f at k, body_other v (byte f at) (words_at f at) k, words_plain f at k)
        (omega (arith, words_size (fields_from f (at + 2) (plain_words (byte f at))), fields_length f (at + 2) (plain_words (byte f at))))

module _ (f : List ℕ) (bs : Bytes f) (at : ℕ) (whole : record_whole f at ≡ true) where
  pub rec_print : drop at f ≡ rec_bytes (byte f 3) (rec_at f at) ++ drop (next_at f at) f
  rec_print = drop_two f at (omega (arith, whole_fits f at whole)) ∙ ap (λ (l : List ℕ). byte f at ∷ byte f (at + 1) ∷ l) (go (ℕ_discrete (byte f at) 1))
    where
      go : Dec (byte f at ≡ 1) → drop (at + 2) f ≡ body_bytes (byte f 3) (byte f at) (words_at f at) ++ drop (next_at f at) f
      go (yes k) =
          let fits = rw (sym (body_block f at k)) at (whole_fits f at whole) in
          let c = half (length (corner_words f (at + 2))) (byte f (at + 2)) (corners_length f (at + 2)) in
          rw (body_one (byte f 3) (byte f at) (words_at f at) k, words_block f at k, c, sym (body_block f at k))
          (drop_one f (at + 2) (omega (arith, block_one (byte f 3) (byte f (at + 2)))) ∙ ap (λ (l : List ℕ). byte f (at + 2) ∷ l) (corners_print f bs (at + 2) fits))
      go (no k) =
          let fits = rw (sym (body_plain f at k)) at (whole_fits f at whole) in
          rw (body_other (byte f 3) (byte f at) (words_at f at) k, words_plain f at k, sym (body_plain f at k)) (fields_print f bs (at + 2) (plain_words (byte f at)) fits)

-- a record that both versions can write
pub record Good (r : Rec) : Type 0 where
  pub low : 1 ≤ r.kind
  pub high : r.kind ≤ 7
  pub even : r.kind ≡ 1 → 2 * (length r.words / 2) ≡ length r.words
  pub close : r.kind ≡ 1 → near r.words ≡ true
  pub within : r.kind ≡ 1 → inside r.words ≡ true
  pub sized : (r.kind ≡ 1 → ⊥) → length r.words ≡ plain_words r.kind

near_words : (f : List ℕ) (at : ℕ) → byte f at ≡ 1 → steps_right (rec_at f at) ≡ near (words_at f at)
unfolding steps_right
near_words f at k = rw (eq-eqb (byte f at) 1 k)

pub inside_words : (f : List ℕ) (at : ℕ) → byte f at ≡ 1 → places_right (rec_at f at) ≡ inside (words_at f at)
unfolding places_right
inside_words f at k = rw (eq-eqb (byte f at) 1 k)

near_other : (f : List ℕ) (at : ℕ) → (byte f at ≡ 1 → ⊥) → steps_right (rec_at f at) ≡ true
unfolding steps_right
near_other f at k = rw (ne_eqb (byte f at) 1 k)

inside_other : (f : List ℕ) (at : ℕ) → (byte f at ≡ 1 → ⊥) → places_right (rec_at f at) ≡ true
unfolding places_right
inside_other f at k = rw (ne_eqb (byte f at) 1 k)

-- by steps all corners are near
pub record_near : (f : List ℕ) (bs : Bytes f) (at : ℕ) → (byte f 3 ≡ 1 → ⊥) → places_right (rec_at f at) ≡ true → steps_right (rec_at f at) ≡ true
record_near f bs at v h = go (ℕ_discrete (byte f at) 1)
  where
    go : Dec (byte f at ≡ 1) → steps_right (rec_at f at) ≡ true
    go (yes k) =
        let i = sym (ap inside (words_block f at k)) ∙ (sym (inside_words f at k) ∙ h) in
        near_words f at k ∙ (ap near (words_block f at k) ∙ corners_near f bs (at + 2) v i)
    go (no k) = near_other f at k

pub rec_good : (f : List ℕ) (at : ℕ) → record_whole f at ≡ true → steps_right (rec_at f at) ≡ true → places_right (rec_at f at) ≡ true → Good (rec_at f at)
rec_good f at w n i =
    record {
      low = (whole_kind f at w).0;
      high = (whole_kind f at w).1;
      even = λ k. omega (arith, ap length (words_block f at k), corners_length f (at + 2));
      close = λ k. sym (near_words f at k) ∙ n;
      within = λ k. sym (inside_words f at k) ∙ i;
      sized = λ k. ap length (words_plain f at k) ∙ fields_length f (at + 2) (plain_words (byte f at));
    }

pub record Parsed (f : List ℕ) (at : ℕ) (r : Rec) (rest : List ℕ) : Type 0 where
  pub same : rec_at f at ≡ r
  pub after : drop (next_at f at) f ≡ rest
  pub fits : next_at f at ≤ length f
  pub whole : record_whole f at ≡ true
  pub close : steps_right (rec_at f at) ≡ true
  pub within : places_right (rec_at f at) ≡ true

module _ (f : List ℕ) (at : ℕ) (r : Rec) (good : Good r) (rest : List ℕ) (h : drop at f ≡ rec_bytes (byte f 3) r ++ rest) where
  head_two : (byte f at ≡ r.kind) × (byte f (at + 1) ≡ r.number) × (drop (at + 2) f ≡ body_bytes (byte f 3) r.kind r.words ++ rest)
  head_two = two_at f at r.kind r.number (body_bytes (byte f 3) r.kind r.words ++ rest) h

  body_parse : (words_at f at ≡ r.words) × (drop (next_at f at) f ≡ rest)
  body_parse = go (ℕ_discrete (byte f at) 1)
    where
      go : Dec (byte f at ≡ 1) → (words_at f at ≡ r.words) × (drop (next_at f at) f ≡ rest)
      go (yes k) =
          let k₂ : r.kind ≡ 1 = sym head_two.0 ∙ k in
          let o = one_at f (at + 2) (length r.words / 2) (corner_bytes (byte f 3) r.words ++ rest) (rw (body_one (byte f 3) r.kind r.words k₂) at head_two.2) in
          let p = corners_parse f (at + 2) rest r.words (omega (arith, o.0, good.even k₂)) (good.close k₂) (good.within k₂) o.1 in
          (words_block f at k ∙ p.0, rw (sym (body_block f at k)) p.1)
      go (no k) =
          let k₂ : r.kind ≡ 1 → ⊥ = λ e. k (head_two.0 ∙ e) in
          let p = fields_parse f (at + 2) r.words rest (rw (body_other (byte f 3) r.kind r.words k₂) at head_two.2) in
          let n : plain_words (byte f at) ≡ length r.words = ap plain_words head_two.0 ∙ sym (good.sized k₂) in
          (words_plain f at k ∙ rw n p.0, rw (sym (body_plain f at k), n) p.1)

  rec_same : rec_at f at ≡ r
  rec_same = λ i. record { kind = head_two.0 i; number = head_two.1 i; words = body_parse.0 i }

  next_fits : next_at f at ≤ length f
  next_fits =
      omega (arith, sym (length-drop at f) ∙ (ap length h ∙ length-append (rec_bytes (byte f 3) r) rest), ap (λ (x : Rec). length (rec_bytes (byte f 3) x)) rec_same, rec_size (byte f 3) f at, size_same f at)

  pub rec_parse : Parsed f at r rest
  rec_parse =
      record {
        same = rec_same;
        after = body_parse.1;
        fits = next_fits;
        whole = whole_true f at (rw head_two.0 good.low) (rw head_two.0 good.high) next_fits;
        close = elim (ℕ_discrete (byte f at) 1) [
          | yes k ↦ near_words f at k ∙ (ap near body_parse.0 ∙ good.close (sym head_two.0 ∙ k))
          | no k ↦ near_other f at k
        ];
        within = elim (ℕ_discrete (byte f at) 1) [
          | yes k ↦ inside_words f at k ∙ (ap inside body_parse.0 ∙ good.within (sym head_two.0 ∙ k))
          | no k ↦ inside_other f at k
        ];
      }
