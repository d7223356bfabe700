-- Labels for the marks of a yard, by a small search. Nothing is proved of them: the test of Ways.antt judges them.
use mathlib.Core.List.{List, [], ◌∷◌}
use mathlib.Core.Bool.{◌||◌, not, cond}
use Prim.Native.Nat.{ℕ, zero, suc, ◌+◌, ◌*◌, ◌/◌, ◌%◌, min}
use lib.Dec.{ltb, leb, eqb}
use Rattle.geometry.specs.Words.{Point}
use Rattle.lengths.specs.Length.{squared}
use Rattle.lengths.specs.Charge.{charge}
use Rattle.paths.proofs.Labels.{Label, label}
use Rattle.book.specs.Book.{Book}
use Rattle.trials.proofs.Drawings.{seen, corner_mark, mark_at}

-- the root of n rounded down, for n below 4 to the k-th; and rounded up
unfoldable root_down : ℕ → ℕ → ℕ
root_down zero n = 0
root_down (suc k) n = let r = 2 * root_down k (n / 4) in cond (leb ((r + 1) * (r + 1)) n) (r + 1) r

unfoldable root : ℕ → ℕ
unfolding root_down
root n = let r = root_down 16 n in cond (ltb (r * r) n) (r + 1) r

abbrev far : ℕ
far = 4294967296

module _ (b : Book) (p q : Point) where
  -- the second end and the corners below mark u, each followed by its key: 256 × charges + straights of a chain to the second end
  unfoldable unknown : ℕ → List ℕ
  unfolding corner_mark
  unknown zero = 193 ∷ 0 ∷ []
  unknown (suc u) = let ks = unknown u in cond (corner_mark b u) (u ∷ far ∷ ks) ks

  -- the best key that a straight from v leads to
  unfoldable reach : ℕ → List ℕ → ℕ
  unfolding seen mark_at root charge
  reach v [] = far
  reach v (u ∷ []) = far
  reach v (u ∷ k ∷ ks) =
      let n = charge b.figure (root (squared (mark_at b p q v) (mark_at b p q u))) in
      let x = cond (eqb v u || not (seen b (mark_at b p q v) (mark_at b p q u))) far (256 * n + 1 + k) in
      min x (reach v ks)

  -- the keys of the marks us once each may take one straight more; the keys of chains of up to n straights
  unfoldable longer : List ℕ → List ℕ → List ℕ
  unfolding reach
  longer ks [] = []
  longer ks (u ∷ []) = []
  longer ks (u ∷ k ∷ us) = let x = reach u ks in u ∷ cond (eqb u 193) 0 x ∷ longer ks us

  unfoldable keys : ℕ → List ℕ
  unfolding unknown longer
  keys zero = unknown 192
  keys (suc n) = let ks = keys n in longer ks ks

  unfoldable key_of : ℕ → List ℕ → ℕ
  key_of v [] = far
  key_of v (u ∷ []) = far
  key_of v (u ∷ k ∷ ks) = cond (eqb v u) k (key_of v ks)

  -- three straights from a corner, four from the first end: enough for the table
  unfoldable pub labelled : ℕ → Label
  unfolding keys key_of reach
  labelled u =
      let k = cond (eqb u 192) (reach 192 (keys 3)) (key_of u (keys 3)) in
      cond (eqb u 193) (label 0 0) (label (k / 256) (k % 256))
