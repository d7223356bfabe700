-- Every two marks have a byte, and every pair table one that an edit makes of it.
use mathlib.Core.Path.{◌≡◌, refl, sym, ◌∙◌}
use mathlib.Core.Logic.{◌⊎◌, inl, inr}
use mathlib.Core.Bool.{Bool, true, false, true≢false, Bool-discrete}
use mathlib.Core.List.{List}
use Prim.Native.Nat.{ℕ, zero, suc, ◌<◌}
use native.Mathlib.Omega.{arith}
use native.Mathlib.Decide.{dec_lt}
use Rattle.geometry.specs.Words.{word}
use Rattle.seams.specs.Seam.{Shared}
use Rattle.seams.proofs.Deciding.{shared_dec}
use Rattle.tables.specs.Tables.{Records, place_of, OnRun, pair_index}
use Rattle.tables.proofs.Joined.{PairTable, pairs_exist}
use Rattle.visibility.specs.Visibility.{Hides, both_present, ByPlaces, PairIs, absent, clear, seam, hidden, Afresh, BlockPair, RunPair, BlockRedrawn, RunRedrawn}
use Rattle.visibility.proofs.Lasting.{on_run_dec, hides_dec, afresh_dec}

abbrev NoneBelow : (ℕ → Type 0) → ℕ → Type 0
NoneBelow P n = (k : ℕ) → k < n → P k → ⊥

abbrev LowestBelow : (ℕ → Type 0) → ℕ → Type 0
LowestBelow P n = (k : ℕ) × (k < n) × P k × NoneBelow P k

-- of the numbers below n there is a lowest with a property that can be decided, or none has it
lowest_or_none : (P : ℕ → Type 0) → ((k : ℕ) → Dec (P k)) → (n : ℕ) → LowestBelow P n ⊎ NoneBelow P n
lowest_or_none P dec zero = inr (λ k l p. omega arith)
lowest_or_none P dec (suc n) = go (lowest_or_none P dec n) (dec n)
  where
    go : LowestBelow P n ⊎ NoneBelow P n → Dec (P n) → LowestBelow P (suc n) ⊎ NoneBelow P (suc n)
    go (inl f) d = inl (f.0, omega (arith, f.1), f.2, f.3)
    go (inr none) (yes p) = inl (n, omega arith, p, none)
    go (inr none) (no p) = inr (λ k l h. at k l h (dec_lt k n))
      where
        at : (k : ℕ) → k < suc n → P k → Dec (k < n) → ⊥
        at k l h (yes b) = none k b h
        at k l h (no b) = let e : k ≡ n = omega arith in p (rw e at h)

pub pair_exists : (R : Records) (i j : ℕ) → (b : ℕ) × PairIs R i j b
pair_exists R i j = go (both_present R i j) refl (lowest_or_none _ (λ n. hides_dec R n i j) 24)
  where
    unhidden : both_present R i j ≡ true → NoneBelow (λ n. Hides R n i j) 24 → Dec (Shared R.blocks (place_of R i) (place_of R j)) → (b : ℕ) × PairIs R i j b
    unhidden e none (yes s) = (253, seam e (record { seen = none; shared = s }) refl)
    unhidden e none (no s) = (254, clear e (record { seen = none; unshared = s }) refl)

    go : (t : Bool) → both_present R i j ≡ t → LowestBelow (λ n. Hides R n i j) 24 ⊎ NoneBelow (λ n. Hides R n i j) 24 → (b : ℕ) × PairIs R i j b
    go false e s = (255, absent e refl)
    go true e (inl f) = (f.0, hidden e f.1 f.2 f.3)
    go true e (inr none) = unhidden e none (shared_dec R.blocks _ _)

-- a pair's byte says whether its straight is clear
pub places_dec : (R : Records) (v u : ℕ) → Dec (ByPlaces R v u)
places_dec R v u = go (pair_exists R v u).0 (pair_exists R v u).1
  where
    go : (b : ℕ) → PairIs R v u b → Dec (ByPlaces R v u)
    go b (absent e o) = no (λ h. true≢false (sym h.0 ∙ e))
    go b (clear e c o) = yes (e, c)
    go b (seam e c o) = no (λ h. h.1.unshared c.shared)
    go b (hidden e l h m) = no (λ c. c.1.seen b l h)

block_pair_exists : (R : Records) (n i j old : ℕ) → (b : ℕ) × BlockPair R n i j old b
block_pair_exists R n i j old = go (afresh_dec n i j old)
  where
    keep : (Afresh n i j old → ⊥) → (both_present R i j ≡ true → n < old → Hides R n i j → ⊥) → (b : ℕ) × BlockPair R n i j old b
    keep f k = (old, record { fresh = λ a. absurd (f a); covered = λ g e l h. absurd (k e l h); kept = λ g c. refl })

    off : (Afresh n i j old → ⊥) → Dec (both_present R i j ≡ true) → Dec (n < old) → Dec (Hides R n i j) → (b : ℕ) × BlockPair R n i j old b
    off f (no e) l h = keep f (λ t m x. e t)
    off f (yes e) (no l) h = keep f (λ t m x. l m)
    off f (yes e) (yes l) (no h) = keep f (λ t m x. h x)
    off f (yes e) (yes l) (yes h) = (n, record { fresh = λ a. absurd (f a); covered = λ g t m x. refl; kept = λ g c. absurd (c e l h) })

    go : Dec (Afresh n i j old) → (b : ℕ) × BlockPair R n i j old b
    go (yes a) = let p = pair_exists R i j in (p.0, record { fresh = λ _. p.1; covered = λ g e l h. absurd (g a); kept = λ g c. absurd (g a) })
    go (no a) = off a (Bool-discrete (both_present R i j) true) (dec_lt n old) (hides_dec R n i j)

run_pair_exists : (R : Records) (m i j old : ℕ) → (b : ℕ) × RunPair R m i j old b
run_pair_exists R m i j old = go (on_run_dec m i) (on_run_dec m j)
  where
    afresh : OnRun m i ⊎ OnRun m j → (b : ℕ) × RunPair R m i j old b
    afresh (inl h) = let p = pair_exists R i j in (p.0, record { fresh = λ _. p.1; kept = λ f g. absurd (f h) })
    afresh (inr h) = let p = pair_exists R i j in (p.0, record { fresh = λ _. p.1; kept = λ f g. absurd (g h) })

    go : Dec (OnRun m i) → Dec (OnRun m j) → (b : ℕ) × RunPair R m i j old b
    go (yes h) d = afresh (inl h)
    go (no h) (yes k) = afresh (inr k)
    go (no h) (no k) = (old, record { fresh = λ a. absurd (off a); kept = λ f g. refl })
      where
        off : OnRun m i ⊎ OnRun m j → ⊥
        off (inl a) = h a
        off (inr a) = k a

pub block_redrawn_exists : (R : Records) (n : ℕ) (old : List ℕ) → (new : List ℕ) × BlockRedrawn R n old new
block_redrawn_exists R n old = (t.words, record { sized = t.sized; each = t.each })
  where
    t : PairTable (λ i j b. BlockPair R n i j (word old (pair_index i j)) b)
    t = pairs_exist _ (λ i j. block_pair_exists R n i j (word old (pair_index i j)))

pub run_redrawn_exists : (R : Records) (m : ℕ) (old : List ℕ) → (new : List ℕ) × RunRedrawn R m old new
run_redrawn_exists R m old = (t.words, record { sized = t.sized; each = t.each })
  where
    t : PairTable (λ i j b. RunPair R m i j (word old (pair_index i j)) b)
    t = pairs_exist _ (λ i j. run_pair_exists R m i j (word old (pair_index i j)))
