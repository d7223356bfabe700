-- A key written into its three words, the other keys, and the sum of all.
use mathlib.Core.Path.{◌≡◌, refl, ap, ◌∙◌}
use mathlib.Core.List.{List}
use Prim.Native.Nat.{ℕ, zero, suc, ◌+◌, ◌*◌, ◌/◌, ◌%◌, ◌≤◌, ◌<◌}
use native.Mathlib.Omega.{arith}
use native.Mathlib.Decide.{ℕ_discrete}
use lib.ListN.{length, set, length-set}
use lib.Seq.{get_or-set_same, get_or-set_other}
use Rattle.geometry.specs.Words.{word}
use Rattle.sweeps.specs.inner.Keys.{key_at, sum_below, total, Stored}

-- two sums whose terms differ at v alone
module _ (K K' : ℕ → ℕ) (v key : ℕ) (here : K' v ≡ key) (there : (w : ℕ) → (w ≡ v → ⊥) → K' w ≡ K w) where
  sum_same : (n : ℕ) → n ≤ v → sum_below n K' ≡ sum_below n K
  unfolding sum_below
  sum_same zero h = refl
  sum_same (suc n) h = omega (arith, sum_same n (omega arith), there n (λ (e : n ≡ v). omega arith))

  sum_put : (n : ℕ) → v < n → sum_below n K' + K v ≡ sum_below n K + key
  unfolding sum_below
  sum_put zero h = absurd (omega arith)
  sum_put (suc n) h = go (ℕ_discrete n v) (λ (l : v < n). sum_put n l)
    where
      go : Dec (n ≡ v) → (v < n → sum_below n K' + K v ≡ sum_below n K + key) → sum_below (suc n) K' + K v ≡ sum_below (suc n) K + key
      go (yes e) r = omega (arith, sum_same n (omega arith), ap K' e, ap K e, here)
      go (no e) r = omega (arith, r (omega arith), there n e)

module _ {top low : List ℕ} {v key : ℕ} {top' low' : List ℕ} (s : Stored top low v key top' low') (t : length top ≡ 4356) (l : length low ≡ 8712) where
  pub top_kept : length top' ≡ 4356
  top_kept = ap length s.top_is ∙ length-set top v (key / 4294967296) ∙ t

  pub low_kept : length low' ≡ 8712
  low_kept = ap length s.low_is ∙ simp length-set l

  module _ (b : v < 4356) where
    abbrev half : List ℕ
    half = set low (2 * v + 1) (key / 65536 % 65536)

    top_here : word top' v ≡ key / 4294967296
    top_here = rw s.top_is (get_or-set_same top v (key / 4294967296) 0 (omega arith))

    low_here : word low' (2 * v) ≡ key % 65536
    low_here = rw s.low_is (get_or-set_same half (2 * v) (key % 65536) 0 (simp length-set (omega arith)))

    high_here : word low' (2 * v + 1) ≡ key / 65536 % 65536
    high_here =
        rw s.low_is
        (get_or-set_other half (2 * v) (2 * v + 1) (key % 65536) 0 (λ (e : 2 * v + 1 ≡ 2 * v). omega arith)
        ∙ get_or-set_same low (2 * v + 1) (key / 65536 % 65536) 0 (omega arith))

    pub key_here : key_at top' low' v ≡ key
    unfolding key_at
    key_here = omega (arith, top_here, low_here, high_here)

    low_there : (i : ℕ) → (i ≡ 2 * v → ⊥) → (i ≡ 2 * v + 1 → ⊥) → word low' i ≡ word low i
    low_there i m n = rw s.low_is (get_or-set_other half (2 * v) i (key % 65536) 0 m ∙ get_or-set_other low (2 * v + 1) i (key / 65536 % 65536) 0 n)

    pub key_there : (w : ℕ) → (w ≡ v → ⊥) → key_at top' low' w ≡ key_at top low w
    unfolding key_at
    key_there w n =
        let p : word top' w ≡ word top w = rw s.top_is (get_or-set_other top v w (key / 4294967296) 0 n) in
        let q = low_there (2 * w) (λ (e : 2 * w ≡ 2 * v). n (omega arith)) (λ (e : 2 * w ≡ 2 * v + 1). omega arith) in
        let r = low_there (2 * w + 1) (λ (e : 2 * w + 1 ≡ 2 * v). omega arith) (λ (e : 2 * w + 1 ≡ 2 * v + 1). n (omega arith)) in
        omega (arith, p, q, r)

    pub total_put : total top' low' + key_at top low v ≡ total top low + key
    unfolding total
    total_put = sum_put (key_at top low) (key_at top' low') v key key_here key_there 4356 b
