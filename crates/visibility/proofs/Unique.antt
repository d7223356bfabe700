-- The definitions leave no choice: a pair's byte, and the pair table after an edit, are each one thing.
use mathlib.Core.Path.{◌≡◌, sym, ◌∙◌}
use mathlib.Core.Logic.{inl, inr}
use mathlib.Core.List.{List}
use mathlib.Core.Bool.{true, true≢false, Bool-discrete}
use Prim.Native.Nat.{ℕ, ◌<◌}
use native.Mathlib.Omega.{arith}
use native.Mathlib.Decide.{dec_lt}
use Rattle.tables.specs.Tables.{Records, OnRun}
use Rattle.tables.proofs.Pairs.{pairs_ext}
use Rattle.visibility.specs.Visibility.{Hides, both_present, PairIs, absent, clear, seam, hidden, Afresh, BlockPair, RunPair, BlockRedrawn, RunRedrawn}
use Rattle.visibility.proofs.Lasting.{on_run_dec, hides_dec, afresh_dec}

pub pair_unique : (R : Records) (i j a b : ℕ) → PairIs R i j a → PairIs R i j b → a ≡ b
pair_unique R i j a b (absent e o) (absent f p) = omega arith
pair_unique R i j a b (absent e o) (clear f c p) = absurd (true≢false (sym f ∙ e))
pair_unique R i j a b (absent e o) (seam f c p) = absurd (true≢false (sym f ∙ e))
pair_unique R i j a b (absent e o) (hidden f l h m) = absurd (true≢false (sym f ∙ e))
pair_unique R i j a b (clear e d o) (absent f p) = absurd (true≢false (sym e ∙ f))
pair_unique R i j a b (clear e d o) (clear f c p) = omega arith
pair_unique R i j a b (clear e d o) (seam f c p) = absurd (d.unshared c.shared)
pair_unique R i j a b (clear e d o) (hidden f l h m) = absurd (d.seen b l h)
pair_unique R i j a b (seam e d o) (absent f p) = absurd (true≢false (sym e ∙ f))
pair_unique R i j a b (seam e d o) (clear f c p) = absurd (c.unshared d.shared)
pair_unique R i j a b (seam e d o) (seam f c p) = omega arith
pair_unique R i j a b (seam e d o) (hidden f l h m) = absurd (d.seen b l h)
pair_unique R i j a b (hidden e k g n) (absent f p) = absurd (true≢false (sym e ∙ f))
pair_unique R i j a b (hidden e k g n) (clear f c p) = absurd (c.seen a k g)
pair_unique R i j a b (hidden e k g n) (seam f c p) = absurd (c.seen a k g)
pair_unique R i j a b (hidden e k g n) (hidden f l h m) = go (dec_lt a b) (dec_lt b a)
  where
    go : Dec (a < b) → Dec (b < a) → a ≡ b
    go (yes q) d = absurd (m a q g)
    go (no q) (yes r) = absurd (n b r h)
    go (no q) (no r) = omega arith

pub run_pair_unique : (R : Records) (m i j old a b : ℕ) → RunPair R m i j old a → RunPair R m i j old b → a ≡ b
run_pair_unique R m i j old a b p q = go (on_run_dec m i) (on_run_dec m j)
  where
    go : Dec (OnRun m i) → Dec (OnRun m j) → a ≡ b
    go (yes h) d = pair_unique R i j a b (p.fresh (inl h)) (q.fresh (inl h))
    go (no h) (yes k) = pair_unique R i j a b (p.fresh (inr k)) (q.fresh (inr k))
    go (no h) (no k) = p.kept h k ∙ sym (q.kept h k)

pub run_redrawn_unique : (R : Records) (m : ℕ) (old a b : List ℕ) → RunRedrawn R m old a → RunRedrawn R m old b → a ≡ b
run_redrawn_unique R m old a b p q = pairs_ext a b p.sized q.sized (λ i j h l. run_pair_unique R m i j _ _ _ (p.each i j h l) (q.each i j h l))

pub block_pair_unique : (R : Records) (n i j old a b : ℕ) → BlockPair R n i j old a → BlockPair R n i j old b → a ≡ b
block_pair_unique R n i j old a b p q = go (afresh_dec n i j old)
  where
    keep : (Afresh n i j old → ⊥) → (both_present R i j ≡ true → n < old → Hides R n i j → ⊥) → a ≡ b
    keep h f = p.kept h f ∙ sym (q.kept h f)

    off : (Afresh n i j old → ⊥) → Dec (both_present R i j ≡ true) → Dec (n < old) → Dec (Hides R n i j) → a ≡ b
    off h (no e) d g = keep h (λ t l x. e t)
    off h (yes e) (no l) g = keep h (λ t m x. l m)
    off h (yes e) (yes l) (no g) = keep h (λ t m x. g x)
    off h (yes e) (yes l) (yes g) = p.covered h e l g ∙ sym (q.covered h e l g)

    go : Dec (Afresh n i j old) → a ≡ b
    go (yes h) = pair_unique R i j a b (p.fresh h) (q.fresh h)
    go (no h) = off h (Bool-discrete (both_present R i j) true) (dec_lt n old) (hides_dec R n i j)

pub block_redrawn_unique : (R : Records) (n : ℕ) (old a b : List ℕ) → BlockRedrawn R n old a → BlockRedrawn R n old b → a ≡ b
block_redrawn_unique R n old a b p q = pairs_ext a b p.sized q.sized (λ i j h l. block_pair_unique R n i j _ _ _ (p.each i j h l) (q.each i j h l))
