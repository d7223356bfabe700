-- Where an edit leaves a mark and a block as they were, what is hidden stays; so bytes that were right are right after the redrawing.
use mathlib.Core.Path.{◌≡◌, sym, ◌∙◌}
use mathlib.Core.Logic.{◌≢◌, ◌⊎◌, inl, inr, ⊎_elim}
use mathlib.Core.Bool.{true, true≢false}
use Prim.Native.Nat.{ℕ, ◌+◌, ◌*◌, ◌<◌, ◌≤◌}
use native.Mathlib.Omega.{arith}
use native.Mathlib.Decide.{dec_lt, dec_le, ℕ_discrete}
use Rattle.geometry.specs.Words.{block_words}
use Rattle.geometry.proofs.Obstructing.{hidden_dec}
use Rattle.seams.specs.Seam.{Shared}
use Rattle.seams.proofs.Seams.{shared_same}
use Rattle.tables.specs.Tables.{Records, place_of, OnBlock, OnRun}
use Rattle.tables.proofs.Kept.{Same}
use Rattle.visibility.specs.Visibility.{Hides, both_present, PairIs, absent, clear, seam, hidden, Afresh, BlockPair, RunPair}

pub on_block_dec : (n i : ℕ) → Dec (OnBlock n i)
on_block_dec n i = go (dec_le (8 * n) i) (dec_lt i (8 * n + 8))
  where
    go : Dec (8 * n ≤ i) → Dec (i < 8 * n + 8) → Dec (OnBlock n i)
    go (yes a) (yes b) = yes (a, b)
    go (yes a) (no b) = no (λ h. b h.1)
    go (no a) d = no (λ h. a h.0)

pub on_run_dec : (m i : ℕ) → Dec (OnRun m i)
on_run_dec m i = go (dec_le (192 + 2 * m) i) (dec_lt i (194 + 2 * m))
  where
    go : Dec (192 + 2 * m ≤ i) → Dec (i < 194 + 2 * m) → Dec (OnRun m i)
    go (yes a) (yes b) = yes (a, b)
    go (yes a) (no b) = no (λ h. b h.1)
    go (no a) d = no (λ h. a h.0)

-- a block hides the same after as before, where its record and the two marks are the same
pub hides_on : (R R' : Records) (k i j : ℕ) → block_words R'.blocks k ≡ block_words R.blocks k → Same R R' i → Same R R' j → Hides R k i j → Hides R' k i j
hides_on R R' k i j e si sj h = record { stands = rw e h.stands; across = rw (e, si.place, sj.place) h.across }

pub hides_back : (R R' : Records) (k i j : ℕ) → block_words R'.blocks k ≡ block_words R.blocks k → Same R R' i → Same R R' j → Hides R' k i j → Hides R k i j
hides_back R R' k i j e si sj h = record { stands = rw (← e) h.stands; across = rw (← e, ← si.place, ← sj.place) h.across }

-- so does a seam, where all blocks are the same
shared_on : (R R' : Records) (i j : ℕ) → ((k : ℕ) → block_words R'.blocks k ≡ block_words R.blocks k) → Same R R' i → Same R R' j
    → Shared R.blocks (place_of R i) (place_of R j) → Shared R'.blocks (place_of R' i) (place_of R' j)
shared_on R R' i j e si sj h = rw (si.place, sj.place) (shared_same R.blocks R'.blocks _ _ e h)

shared_back : (R R' : Records) (i j : ℕ) → ((k : ℕ) → block_words R'.blocks k ≡ block_words R.blocks k) → Same R R' i → Same R R' j
    → Shared R'.blocks (place_of R' i) (place_of R' j) → Shared R.blocks (place_of R i) (place_of R j)
shared_back R R' i j e si sj h = shared_same R'.blocks R.blocks _ _ (λ k. sym (e k)) (rw (si.place, sj.place) at h)

pub both_same : (R R' : Records) (i j : ℕ) → Same R R' i → Same R R' j → both_present R' i j ≡ both_present R i j
both_same R R' i j si sj = rw (si.there, sj.there)

-- the byte stays right where nothing that it depends on changes
pub pair_on : (R R' : Records) (i j b : ℕ) → ((k : ℕ) → block_words R'.blocks k ≡ block_words R.blocks k) → Same R R' i → Same R R' j → PairIs R i j b → PairIs R' i j b
pair_on R R' i j b e si sj (absent a o) = absent (both_same R R' i j si sj ∙ a) o
pair_on R R' i j b e si sj (clear a c o) =
    clear (both_same R R' i j si sj ∙ a) (record { seen = λ k l h. c.seen k l (hides_back R R' k i j (e k) si sj h); unshared = λ h. c.unshared (shared_back R R' i j e si sj h) }) o
pair_on R R' i j b e si sj (seam a c o) =
    seam (both_same R R' i j si sj ∙ a) (record { seen = λ k l h. c.seen k l (hides_back R R' k i j (e k) si sj h); shared = shared_on R R' i j e si sj c.shared }) o
pair_on R R' i j b e si sj (hidden a l h m) =
    hidden (both_same R R' i j si sj ∙ a) l (hides_on R R' b i j (e b) si sj h) (λ k q g. m k q (hides_back R R' k i j (e k) si sj g))

pub run_pair : (R R' : Records) (m i j old new : ℕ) → R'.blocks ≡ R.blocks → ((OnRun m i → ⊥) → Same R R' i) → ((OnRun m j → ⊥) → Same R R' j)
    → RunPair R' m i j old new → PairIs R i j old → PairIs R' i j new
run_pair R R' m i j old new e si sj p r = go (on_run_dec m i) (on_run_dec m j)
  where
    go : Dec (OnRun m i) → Dec (OnRun m j) → PairIs R' i j new
    go (yes a) d = p.fresh (inl a)
    go (no a) (yes b) = p.fresh (inr b)
    go (no a) (no b) = rw (p.kept a b) (pair_on R R' i j old (λ k. rw e) (si a) (sj b) r)

pub hides_dec : (R : Records) (k i j : ℕ) → Dec (Hides R k i j)
hides_dec R k i j = hidden_dec R.blocks k (place_of R i) (place_of R j)

either_dec : {P Q : Type 0} → Dec P → Dec Q → Dec (P ⊎ Q)
either_dec (yes p) d = yes (inl p)
either_dec (no p) (yes q) = yes (inr q)
either_dec (no p) (no q) = no (⊎_elim p q)

pub afresh_dec : (n i j old : ℕ) → Dec (Afresh n i j old)
afresh_dec n i j old = either_dec (either_dec (either_dec (on_block_dec n i) (on_block_dec n j)) (ℕ_discrete old n)) (either_dec (ℕ_discrete old 253) (ℕ_discrete old 254))

module _ (R R' : Records) (n i j old new : ℕ) (below : n < 24) (other : (k : ℕ) → k ≢ n → block_words R'.blocks k ≡ block_words R.blocks k)
    (p : BlockPair R' n i j old new) where
  off_pair : (Afresh n i j old → ⊥) → Same R R' i → Same R R' j → PairIs R i j old → PairIs R' i j new
  off_pair na si sj (absent e o) =
      absent (both_same R R' i j si sj ∙ e) (p.kept na (λ t b h. true≢false (sym t ∙ both_same R R' i j si sj ∙ e)) ∙ o)
  off_pair na si sj (clear e c o) = absurd (na (inr (inr o)))
  off_pair na si sj (seam e c o) = absurd (na (inr (inl o)))
  off_pair na si sj (hidden e b h l) = go (dec_lt n old)
    where
      back : (k : ℕ) → k ≢ n → Hides R' k i j → Hides R k i j
      back k d = hides_back R R' k i j (other k d) si sj

      there : both_present R' i j ≡ true
      there = both_same R R' i j si sj ∙ e

      -- the byte stays: block n does not hide the pair below the old number
      stays : (n < old → Hides R' n i j → ⊥) → PairIs R' i j new
      stays f =
          rw (p.kept na (λ t. f)) (hidden there b (hides_on R R' old i j (other old (λ q. na (inl (inr q)))) si sj h) (λ k m g. each k m g (ℕ_discrete k n)))
        where
          each : (k : ℕ) → k < old → Hides R' k i j → Dec (k ≡ n) → ⊥
          each k m g (yes r) = f (omega arith) (rw r at g)
          each k m g (no r) = l k m (back k r g)

      below_old : n < old → Dec (Hides R' n i j) → PairIs R' i j new
      below_old m (yes g) = rw (p.covered na there m g) (hidden there below g (λ k s f. l k (omega arith) (back k (omega arith) f)))
      below_old m (no g) = stays (λ s. g)

      go : Dec (n < old) → PairIs R' i j new
      go (yes m) = below_old m (hides_dec R' n i j)
      go (no m) = stays (λ s g. m s)

  pub block_pair : ((OnBlock n i → ⊥) → Same R R' i) → ((OnBlock n j → ⊥) → Same R R' j) → PairIs R i j old → PairIs R' i j new
  block_pair si sj r = go (afresh_dec n i j old)
    where
      go : Dec (Afresh n i j old) → PairIs R' i j new
      go (yes a) = p.fresh a
      go (no a) = off_pair a (si (λ h. a (inl (inl (inl h))))) (sj (λ h. a (inl (inl (inr h))))) r
