-- No projection of a straight is longer than it is, so that the longest bounds a search.
use mathlib.Core.Path.{◌≡◌, refl, sym, ap, ◌∙◌}
use mathlib.Core.List.{List}
use Prim.Native.Nat.{ℕ, ◌+◌, ◌*◌, ◌-◌, ◌/◌, ◌≤◌, ◌<◌, max, min}
use native.Mathlib.Decide.{ℕ_discrete, dec_le, dec_lt}
use native.Mathlib.Nat.{le_refl, mul-le-mul}
use native.Mathlib.Omega.{arith}
use lib.ListN.{length, set, length-set}
use lib.Seq.{get_or-set_same, get_or-set_other}
use Rattle.paths.specs.inner.LowerBound.{ConsistentBound}
use Rattle.geometry.specs.Words.{Point, word}
use Rattle.lengths.specs.Length.{gap, squared, length_of}
use Rattle.lengths.proofs.Roots.{root_is}
use Rattle.lengths.proofs.Charges.{charge_least}
use Rattle.tables.specs.Tables.{Records, figure_of, place_of}
use Rattle.search.specs.Network.{cost, graph}
use Rattle.search.specs.inner.LowerBound.{projection, at_least, lower_bound}
use Rattle.search.specs.inner.Keys.{Looked}

double_product : (x y : ℕ) → 2 * (x * y) ≤ x * x + y * y
double_product x y = go (dec_le x y)
  where
    go : Dec (x ≤ y) → 2 * (x * y) ≤ x * x + y * y
    go (yes l) = let d = y - x in let q : y ≡ x + d = omega arith in rw q (omega arith)
    go (no l) = let d = x - y in let q : x ≡ y + d = omega arith in rw q (omega arith)

-- a straight with the differences x and y, whose length is w or less, has no longer projection
one_projection : (a b x y w : ℕ) → a * a + b * b ≤ 65536 → x * x + y * y ≤ w * w → a * x + b * y ≤ 256 * w
one_projection a b x y w h k = go (dec_le (a * x + b * y) (256 * w))
  where
    go : Dec (a * x + b * y ≤ 256 * w) → a * x + b * y ≤ 256 * w
    go (yes l) = l
    go (no l) =
        let s : 256 * w + 1 ≤ a * x + b * y = omega arith in
        let above : (256 * w + 1) * (256 * w + 1) ≤ (a * x + b * y) * (a * x + b * y) = mul-le-mul s s in
        let below : (a * a + b * b) * (x * x + y * y) ≤ 65536 * (w * w) = mul-le-mul h k in
        absurd (omega (arith, above, below, double_product (b * x) (a * y)))

-- the larger of two grows by no more than each of them
max_grows : (a b c d k : ℕ) → a ≤ k + c → b ≤ k + d → max a b ≤ k + max c d
max_grows a b c d k p q = omega arith

-- the projection on one direction, by the larger and the smaller difference: x and y grow by p and q at most
module _ (x y x' y' p q w : ℕ) (e : x' ≤ p + x) (n : y' ≤ q + y) (long : p * p + q * q ≤ w * w) where
  straight_projection : (a b : ℕ) → a * a + b * b ≤ 65536 → a * x' + b * y' ≤ 256 * w + (a * x + b * y)
  straight_projection a b h =
      let i : a * x' ≤ a * (p + x) = mul-le-mul (le_refl a) e in
      let j : b * y' ≤ b * (q + y) = mul-le-mul (le_refl b) n in
      omega (arith, i, j, one_projection a b p q w h long)

  projection_grows : projection (max x' y') (min x' y') ≤ 256 * w + projection (max x y) (min x y)
  unfolding projection
  projection_grows =
      max_grows _ _ _ _ _
      (max_grows _ _ _ _ _
      (max_grows _ _ _ _ _ (omega (arith, straight_projection 256 0 (omega arith), straight_projection 0 256 (omega arith))) (omega (arith, straight_projection 250 55 (omega arith), straight_projection 55 250 (omega arith))))
      (omega (arith, straight_projection 236 99 (omega arith), straight_projection 99 236 (omega arith))))
      (max_grows _ _ _ _ _ (omega (arith, straight_projection 213 142 (omega arith), straight_projection 142 213 (omega arith))) (omega (arith, straight_projection 181 181 (omega arith))))

grows : (o p q : Point) → at_least o q ≤ length_of p q + at_least o p
unfolding at_least length_of
grows o p q =
    let g = projection_grows (gap o.east p.east) (gap o.north p.north) (gap o.east q.east) (gap o.north q.north) (gap p.east q.east) (gap p.north q.north) (length_of p q) (omega arith) (omega arith) (root_is (squared p q)).enough in
    omega (arith, g)

none_here : (p : Point) → at_least p p ≡ 0
unfolding at_least projection
none_here p = rw (no_gap p.east, no_gap p.north) refl
  where
    no_gap : (a : ℕ) → gap a a ≡ 0
    no_gap a = omega arith

pub bound_consistent : (R : Records) (Clear : ℕ → ℕ → Type 0) (start : ℕ) → ConsistentBound (graph R Clear) start (lower_bound R start)
unfolding lower_bound cost
bound_consistent R Clear start = record { none = none_here (place_of R start); step = λ v u. omega (arith, grows (place_of R start) (place_of R v) (place_of R u), charge_least (figure_of R.runs) (length_of (place_of R v) (place_of R u))) }

-- what the code computes

pub projection_is : (hi lo a b c d : ℕ) → a ≡ max (256 * hi) (250 * hi + 55 * lo) → b ≡ max a (236 * hi + 99 * lo) → c ≡ max (213 * hi + 142 * lo) (181 * hi + 181 * lo) → d ≡ max b c
    → d ≡ projection hi lo
unfolding projection
projection_is hi lo a b c d e f g h = h ∙ ap (λ (x : ℕ). max x c) (f ∙ ap (λ (x : ℕ). max x (236 * hi + 99 * lo)) e) ∙ ap (λ (x : ℕ). max (max (max (256 * hi) (250 * hi + 55 * lo)) (236 * hi + 99 * lo)) x) g

smaller : (x y : ℕ) → x + y - max x y ≡ min x y
smaller x y = omega arith

pub at_least_is : (p q : Point) (x y hi s : ℕ) → x ≡ gap p.east q.east → y ≡ gap p.north q.north → hi ≡ max x y → s ≡ projection hi (x + y - hi)
    → 256 * (s / 256) ≡ 256 * at_least p q
unfolding at_least
at_least_is p q x y hi s e n h k =
    rw (k, h, smaller x y, e, n) refl

-- no bound is large
pub at_least_small : (x y hi s : ℕ) → x ≤ 65535 → y ≤ 65535 → hi ≡ max x y → s ≡ projection hi (x + y - hi) → 256 * (s / 256) ≤ 23723670
unfolding projection
at_least_small x y hi s a b h k = omega (arith, k)

pub bound_is : (R : Records) (start v : ℕ) (p q : Point) (x : ℕ) → p ≡ place_of R start → q ≡ place_of R v → x ≡ 256 * at_least p q → x ≡ 256 * lower_bound R start v
unfolding lower_bound
bound_is R start v p q x e f h = h ∙ ap (λ (o : Point). 256 * at_least o q) e ∙ ap (λ (o : Point). 256 * at_least (place_of R start) o) f

-- the marks that are looked at

pub looked_none : (bound : ℕ → ℕ) (waiting bounds : List ℕ) → length bounds ≡ 240 → Looked bound waiting 0 bounds
looked_none bound waiting bounds l = record { sized = l; each = λ j h. absurd (omega arith) }

pub looked_next : (bound : ℕ → ℕ) (waiting bounds : List ℕ) (j x : ℕ) → word waiting j < 240 → Looked bound waiting j bounds → x ≡ 256 * bound (word waiting j)
    → Looked bound waiting (j + 1) (set bounds (word waiting j) x)
looked_next bound waiting bounds j x b l e = record { sized = length-set bounds (word waiting j) x ∙ l.sized; each = λ i h. each i h (ℕ_discrete (word waiting i) (word waiting j)) (dec_lt i j) }
  where
    each : (i : ℕ) → i < j + 1 → Dec (word waiting i ≡ word waiting j) → Dec (i < j) → word (set bounds (word waiting j) x) (word waiting i) ≡ 256 * bound (word waiting i)
    each i h (yes q) d = ap (word (set bounds (word waiting j) x)) q ∙ get_or-set_same bounds (word waiting j) x 0 (omega (arith, l.sized)) ∙ e ∙ ap (λ (w : ℕ). 256 * bound w) (sym q)
    each i h (no q) (yes c) = get_or-set_other bounds (word waiting j) (word waiting i) x 0 q ∙ l.each i c
    each i h (no q) (no c) = let z : i ≡ j = omega arith in absurd (q (ap (word waiting) z))
