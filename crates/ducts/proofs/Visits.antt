-- The crossings that a trail of steps passes.
use mathlib.Core.Path.{◌≡◌, refl, sym, ap, ◌∙◌}
use mathlib.Core.List.{List, [], ◌∷◌}
use Prim.Native.Nat.{ℕ, zero, suc, ◌+◌, ◌-◌, ◌≤◌, ◌<◌}
use native.Mathlib.Omega.{arith}
use lib.ListN.{length, take, length-take}
use lib.Seq.{get_or-take}
use Rattle.geometry.specs.Words.{word}
use Rattle.walks.specs.inner.Paths.{moved_by, visits}

visits_length : (v : ℕ) (ds : List ℕ) → length (visits v ds) ≡ 1 + length ds
unfolding visits
visits_length v [] = refl
visits_length v (d ∷ ds) = omega (arith, visits_length (moved_by d v) ds)

visits_next : (s : ℕ) (ds : List ℕ) (i : ℕ) → i < length ds → word (visits s ds) (suc i) ≡ moved_by (word ds i) (word (visits s ds) i)
unfolding visits
visits_next s [] i h = absurd (omega arith)
visits_next s (d ∷ []) zero h = refl
visits_next s (d ∷ []) (suc i) h = absurd (omega arith)
visits_next s (d ∷ e ∷ ds) zero h = refl
visits_next s (d ∷ e ∷ ds) (suc i) h = visits_next (moved_by d s) (e ∷ ds) i (omega arith)

pub visits_first : (s : ℕ) (ds : List ℕ) → word (visits s ds) 0 ≡ s
unfolding visits
visits_first s [] = refl
visits_first s (d ∷ ds) = refl

module _ (trail : List ℕ) (n start : ℕ) (long : length trail ≡ 4356) (one : 1 ≤ n) (most : n ≤ 4356) where
  steps : length (take (n - 1) trail) ≡ n - 1
  steps = simp length-take (omega arith)

  pub path_length : length (visits start (take (n - 1) trail)) ≡ n
  path_length = omega (arith, visits_length start (take (n - 1) trail), steps)

  pub next_at_lem : (v k r : ℕ) → k < n → 1 ≤ k → v ≡ word (visits start (take (n - 1) trail)) (k - 1) → r ≡ moved_by (word trail (k - 1)) v
      → r ≡ word (visits start (take (n - 1) trail)) k
  next_at_lem v k r l o a e =
      let q : word (take (n - 1) trail) (k - 1) ≡ word trail (k - 1) = get_or-take (n - 1) trail (k - 1) 0 (omega arith) in
      let z : suc (k - 1) ≡ k = omega arith in
      e ∙ ap (λ (d : ℕ). moved_by d v) (sym q) ∙ ap (moved_by (word (take (n - 1) trail) (k - 1))) a
      ∙ sym (visits_next start (take (n - 1) trail) (k - 1) (omega (arith, steps))) ∙ ap (word (visits start (take (n - 1) trail))) z
