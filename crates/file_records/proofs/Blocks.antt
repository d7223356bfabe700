-- The corners of a block, written and read back in either version.
use mathlib.Core.Path.{◌≡◌, refl, sym, ap, ◌∙◌}
use mathlib.Core.List.{List, [], ◌∷◌, ◌++◌, append_assoc}
use mathlib.Core.Bool.{true, ◌&&◌}
use Prim.Native.Nat.{ℕ, suc, ◌+◌, ◌*◌, ◌-◌, ◌≤◌}
use native.Mathlib.Omega.{arith}
use native.Mathlib.Decide.{ℕ_discrete}
use lib.Dec.{leb}
use lib.ListN.{length, get_or, drop, length-append}
use borrow.Author.Tests.{eq-eqb, ne_eqb, leb-true}
use Rattle.lists.specs.Lists.{all}
use Rattle.lists.proofs.Every.{both}
use Rattle.file_words.specs.Words.{byte, block_size, field, fields_from, step_words, corner_words, inside}
use Rattle.file_words.proofs.Corners.{words_full, words_empty, words_short}
use Rattle.file_words.proofs.Sizes.{block_full, block_empty, block_short}
use Rattle.file_records.specs.Records.{word_bytes, step_bytes, short_bytes, corner_bytes}
use Rattle.file_records.specs.Conversions.{near_from, near}
use Rattle.file_records.proofs.Words.{Bytes, fields_print, fields_parse, words_size, steps_print, steps_near, steps_parse, steps_size}

pub bytes_full : (v : ℕ) (ws : List ℕ) → v ≡ 1 → corner_bytes v ws ≡ word_bytes ws
unfolding corner_bytes
bytes_full v ws e = rw (eq-eqb v 1 e)

pub bytes_short : (v : ℕ) (ws : List ℕ) → (v ≡ 1 → ⊥) → corner_bytes v ws ≡ short_bytes ws
unfolding corner_bytes
bytes_short v ws e = rw (ne_eqb v 1 e)

fields_two : (f : List ℕ) (at : ℕ) → fields_from f (at + 1) 2 ≡ field f (at + 1) ∷ field f (at + 3) ∷ []
unfolding fields_from
fields_two f at = let e : at + 1 + 2 ≡ at + 3 = omega arith in rw e

near_none : near [] ≡ true
unfolding near
near_none = refl

near_two : (a b : ℕ) (ws : List ℕ) → (a ≤ 32767 → b ≤ 32767 → inside ws ≡ true → near_from a b ws ≡ true) → inside (a ∷ b ∷ ws) ≡ true → near (a ∷ b ∷ ws) ≡ true
unfolding near inside all
near_two a b ws k h =
    let p = both (leb a 32767) (leb b 32767 && inside ws) h in
    let q = both (leb b 32767) (inside ws) p.1 in
    k (leb-true a 32767 p.0) (leb-true b 32767 q.0) q.1

module _ (f : List ℕ) (bs : Bytes f) (at : ℕ) where
  pub corners_print : at + block_size (byte f 3) (byte f at) ≤ length f
      → drop (at + 1) f ≡ corner_bytes (byte f 3) (corner_words f at) ++ drop (at + block_size (byte f 3) (byte f at)) f
  unfolding short_bytes
  corners_print h = go (ℕ_discrete (byte f 3) 1) (ℕ_discrete (byte f at) 0)
    where
      go : Dec (byte f 3 ≡ 1) → Dec (byte f at ≡ 0) → drop (at + 1) f ≡ corner_bytes (byte f 3) (corner_words f at) ++ drop (at + block_size (byte f 3) (byte f at)) f
      go (yes v) d =
          let h₂ = rw (v, block_full (byte f at)) at h in
          let e : at + (1 + 4 * byte f at) ≡ at + 1 + 2 * (2 * byte f at) = omega arith in
          rw (bytes_full (byte f 3) (corner_words f at) v, words_full f at v, v, block_full (byte f at), e) (fields_print f bs (at + 1) (2 * byte f at) (omega arith))
      go (no v) (yes c) = rw (bytes_short (byte f 3) (corner_words f at) v, words_empty f at v c, c, block_empty (byte f 3))
      go (no v) (no c) =
          let h₂ = rw (block_short (byte f 3) (byte f at) v c) at h in
          let e : at + 1 + 2 * 2 ≡ at + 5 = omega arith in
          let e₂ : at + 5 + (2 * byte f at - 2) ≡ at + (3 + 2 * byte f at) = omega arith in
          let a : ℕ = field f (at + 1) in
          let b : ℕ = field f (at + 3) in
          let p : drop (at + 1) f ≡ word_bytes (a ∷ b ∷ []) ++ drop (at + 5) f = rw (e, fields_two f at) at (fields_print f bs (at + 1) 2 (omega arith)) in
          let q = rw e₂ at (steps_print f bs (at + 5) (2 * byte f at - 2) a b (omega (arith, bs (at + 1), bs (at + 1 + 1))) (omega (arith, bs (at + 3), bs (at + 3 + 1))) (omega arith)) in
          rw (bytes_short (byte f 3) (corner_words f at) v, words_short f at v c, block_short (byte f 3) (byte f at) v c)
          (p ∙ (ap (λ (l : List ℕ). word_bytes (a ∷ b ∷ []) ++ l) q ∙ sym (append_assoc (word_bytes (a ∷ b ∷ [])) (step_bytes a b (step_words f (at + 5) (2 * byte f at - 2) a b)) (drop (at + (3 + 2 * byte f at)) f))))

  -- steps by signed bytes are near where the corners are inside
  pub corners_near : (byte f 3 ≡ 1 → ⊥) → inside (corner_words f at) ≡ true → near (corner_words f at) ≡ true
  corners_near v = go (ℕ_discrete (byte f at) 0)
    where
      go : Dec (byte f at ≡ 0) → inside (corner_words f at) ≡ true → near (corner_words f at) ≡ true
      go (yes c) = rw (words_empty f at v c) (λ h. near_none)
      go (no c) = rw (words_short f at v c)
          (near_two (field f (at + 1)) (field f (at + 3)) (step_words f (at + 5) (2 * byte f at - 2) (field f (at + 1)) (field f (at + 3)))
          (steps_near f bs (at + 5) (2 * byte f at - 2) (field f (at + 1)) (field f (at + 3))))

module _ (f : List ℕ) (at : ℕ) (rest : List ℕ) where
  pub corners_parse : (ws : List ℕ) → 2 * byte f at ≡ length ws → near ws ≡ true → inside ws ≡ true → drop (at + 1) f ≡ corner_bytes (byte f 3) ws ++ rest
      → (corner_words f at ≡ ws) × (drop (at + block_size (byte f 3) (byte f at)) f ≡ rest)
  unfolding short_bytes near inside all
  corners_parse ws n hn hi h = go ws n hn hi h (ℕ_discrete (byte f 3) 1)
    where
      go : (ws : List ℕ) → 2 * byte f at ≡ length ws → near ws ≡ true → inside ws ≡ true → drop (at + 1) f ≡ corner_bytes (byte f 3) ws ++ rest
          → Dec (byte f 3 ≡ 1) → (corner_words f at ≡ ws) × (drop (at + block_size (byte f 3) (byte f at)) f ≡ rest)
      go ws n hn hi h (yes v) =
          let p = fields_parse f (at + 1) ws rest (rw (bytes_full (byte f 3) ws v) at h) in
          let e : at + (1 + 4 * byte f at) ≡ at + 1 + 2 * length ws = omega arith in
          (words_full f at v ∙ rw n p.0, rw (v, block_full (byte f at), e) p.1)
      go [] n hn hi h (no v) =
          let c : byte f at ≡ 0 = omega arith in
          (words_empty f at v c, rw (c, block_empty (byte f 3)) (rw (bytes_short (byte f 3) [] v) at h))
      go (a ∷ []) n hn hi h (no v) = absurd (omega arith)
      go (a ∷ b ∷ ws) n hn hi h (no v) =
          let c : byte f at ≡ 0 → ⊥ = λ z. omega arith in
          let i₁ = both (leb a 32767) (leb b 32767 && inside ws) hi in
          let i₂ = both (leb b 32767) (inside ws) i₁.1 in
          let g = rw (bytes_short (byte f 3) (a ∷ b ∷ ws) v) at h in
          let p = fields_parse f (at + 1) (a ∷ b ∷ []) (step_bytes a b ws ++ rest) (g ∙ append_assoc (word_bytes (a ∷ b ∷ [])) (step_bytes a b ws) rest) in
          let w = sym (fields_two f at) ∙ p.0 in
          let wa : field f (at + 1) ≡ a = ap (λ (l : List ℕ). get_or l 0 0) w in
          let wb : field f (at + 3) ≡ b = ap (λ (l : List ℕ). get_or l 1 0) w in
          let e : at + 1 + 2 * 2 ≡ at + 5 = omega arith in
          let q = steps_parse f (at + 5) a b ws rest (leb-true a 32767 i₁.0) (leb-true b 32767 i₂.0) i₂.1 hn (rw e at p.1) in
          let m : 2 * byte f at - 2 ≡ length ws = omega arith in
          let e₂ : at + (3 + 2 * byte f at) ≡ at + 5 + length ws = omega arith in
          (words_short f at v c ∙ rw (wa, wb, m, q.0), rw (block_short (byte f 3) (byte f at) v c, e₂) q.1)

-- how long the corners are in a version
pub corners_size : (v c : ℕ) (ws : List ℕ) → length ws ≡ 2 * c → suc (length (corner_bytes v ws)) ≡ block_size v c
unfolding short_bytes
corners_size v c ws n = go ws n (ℕ_discrete v 1)
  where
    go : (ws : List ℕ) → length ws ≡ 2 * c → Dec (v ≡ 1) → suc (length (corner_bytes v ws)) ≡ block_size v c
    go ws n (yes e) = rw (bytes_full v ws e, e, block_full c) (omega (arith, words_size ws))
    go [] n (no e) = let z : c ≡ 0 = omega arith in rw (bytes_short v [] e, z, block_empty v)
    go (a ∷ []) n (no e) = absurd (omega arith)
    go (a ∷ b ∷ ws) n (no e) =
        let z : c ≡ 0 → ⊥ = λ h. omega arith in
        rw (bytes_short v (a ∷ b ∷ ws) e, block_short v c e z, length-append (word_bytes (a ∷ b ∷ [])) (step_bytes a b ws), words_size (a ∷ b ∷ []), steps_size a b ws) (omega arith)
