-- The words of a block's record, by its places.
use mathlib.Core.Path.{◌≡◌, refl, sym, ap, ◌∙◌, subst}
use mathlib.Core.List.{List, [], ◌∷◌, ◌++◌}
use Prim.Native.Nat.{ℕ, zero, suc, ◌+◌, ◌*◌, ◌-◌, ◌/◌, ◌%◌, ◌<◌, ◌≤◌}
use native.Mathlib.Omega.{arith}
use native.Mathlib.Decide.{dec_lt, ℕ_discrete}
use lib.ListN.{length, replicate}
use lib.Seq.{ext_get_or, get_or-append-add}
use Rattle.geometry.specs.Words.{Point, word}
use Rattle.geometry.specs.Obstruction.{corner_at}
use Rattle.tables.specs.Written.{place_words, block_record}
use Rattle.tables.proofs.Splices.{word_zeros, place_words_length, block_record_length}

record_even : (ps : List Point) (zs : List ℕ) (k : ℕ) → k < length ps → word (place_words ps ++ zs) (2 * k) ≡ (corner_at ps k).east
unfolding place_words
record_even [] zs k h = absurd (omega arith)
record_even (p ∷ ps) zs zero h = refl
record_even (p ∷ ps) zs (suc k) h = let e : 2 * suc k ≡ suc (suc (2 * k)) = omega arith in rw e (record_even ps zs k (omega arith))

record_odd : (ps : List Point) (zs : List ℕ) (k : ℕ) → k < length ps → word (place_words ps ++ zs) (suc (2 * k)) ≡ (corner_at ps k).north
unfolding place_words
record_odd [] zs k h = absurd (omega arith)
record_odd (p ∷ ps) zs zero h = refl
record_odd (p ∷ ps) zs (suc k) h = let e : 2 * suc k ≡ suc (suc (2 * k)) = omega arith in rw e (record_odd ps zs k (omega arith))

record_past : (ps : List Point) (n k : ℕ) → 2 * length ps ≤ k → word (place_words ps ++ replicate n 0) k ≡ 0
record_past ps n k h =
    let e : length (place_words ps) + (k - 2 * length ps) ≡ k = omega (arith, place_words_length ps) in
    subst (λ (i : ℕ). word (place_words ps ++ replicate n 0) i ≡ 0) e
    (get_or-append-add (place_words ps) (replicate n 0) (k - 2 * length ps) 0 ∙ word_zeros n (k - 2 * length ps))

-- seventeen words with the count, the places and zeros are the record
pub record_ext : (ps : List Point) (made : List ℕ) → length ps ≤ 8 → length made ≡ 17 → word made 0 ≡ length ps
    → ((k : ℕ) → k < length ps → (word made (2 * k + 1) ≡ (corner_at ps k).east) × (word made (2 * k + 2) ≡ (corner_at ps k).north))
    → ((i : ℕ) → 2 * length ps < i → word made i ≡ 0) → made ≡ block_record ps
unfolding block_record
record_ext ps made s l c p z = ext_get_or 0 made (block_record ps) (l ∙ sym (block_record_length ps s)) at
  where
    at : (i : ℕ) → i < length made → word made i ≡ word (block_record ps) i
    at zero h = c
    at (suc i) h = go (dec_lt i (2 * length ps)) (ℕ_discrete (i % 2) 0)
      where
        go : Dec (i < 2 * length ps) → Dec (i % 2 ≡ 0) → word made (suc i) ≡ word (place_words ps ++ replicate (16 - 2 * length ps) 0) i
        go (yes b) (yes e) =
            let q : i ≡ 2 * (i / 2) = omega arith in
            let r : 2 * (i / 2) + 1 ≡ suc i = omega arith in
            ap (λ (k : ℕ). word made k) (sym r) ∙ (p (i / 2) (omega arith)).0
            ∙ sym (record_even ps (replicate (16 - 2 * length ps) 0) (i / 2) (omega arith))
            ∙ ap (λ (k : ℕ). word (place_words ps ++ replicate (16 - 2 * length ps) 0) k) (sym q)
        go (yes b) (no e) =
            let q : i ≡ suc (2 * (i / 2)) = omega arith in
            let r : 2 * (i / 2) + 2 ≡ suc i = omega arith in
            ap (λ (k : ℕ). word made k) (sym r) ∙ (p (i / 2) (omega arith)).1
            ∙ sym (record_odd ps (replicate (16 - 2 * length ps) 0) (i / 2) (omega arith))
            ∙ ap (λ (k : ℕ). word (place_words ps ++ replicate (16 - 2 * length ps) 0) k) (sym q)
        go (no b) d = z (suc i) (omega arith) ∙ sym (record_past ps (16 - 2 * length ps) i (omega arith))
