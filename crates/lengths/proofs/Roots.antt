-- The length of a segment is the number that rule 11 names: the smallest whose square is large enough.
use mathlib.Core.Path.{◌≡◌}
use mathlib.Core.Bool.{cond}
use Prim.Native.Nat.{ℕ, zero, suc, ◌*◌, ◌<◌, ◌≤◌}
use native.Mathlib.Nat.{mul-le-mul}
use native.Mathlib.Omega.{arith}
use native.Mathlib.Decide.{dec_le}
use lib.Dec.{leb}
use borrow.Author.Tests.{le-leb, lt-leb}
use Rattle.geometry.specs.Words.{Point}
use Rattle.geometry.specs.inner.Bounds.{InRange}
use Rattle.lengths.specs.Length.{gap, length_of, root_up, RootUp}

pub root_one : (n v w : ℕ) → RootUp n v → RootUp n w → v ≡ w
root_one n v w a b =
    let p : v ≤ w = a.least w b.enough in
    let q : w ≤ v = b.least v a.enough in
    omega arith

pub root_is : (n : ℕ) → RootUp n (root_up n)
unfolding root_up
root_is zero = record { enough = omega arith; least = λ v h. omega arith }
root_is (suc n) = go (dec_le (suc n) (root_up n * root_up n)) (root_is n)
  where
    go : Dec (suc n ≤ root_up n * root_up n) → RootUp n (root_up n) → RootUp (suc n) (cond (leb (suc n) (root_up n * root_up n)) (root_up n) (suc (root_up n)))
    go (yes h) r = rw (le-leb (suc n) (root_up n * root_up n) h) (record { enough = h; least = λ v k. r.least v (omega arith) })
    go (no h) r = rw (lt-leb (suc n) (root_up n * root_up n) (omega arith)) (record { enough = omega arith; least = λ v k. above v k (dec_le v (root_up n)) })
      where
        above : (v : ℕ) → suc n ≤ v * v → Dec (v ≤ root_up n) → suc (root_up n) ≤ v
        above v k (yes p) = let q : v * v ≤ root_up n * root_up n = mul-le-mul p p in absurd (omega arith)
        above v k (no p) = omega arith

-- a root from its two squares, for numbers that are written out
pub root_at : (n w : ℕ) → w * w < n → n ≤ suc w * suc w → root_up n ≡ suc w
root_at n w lo hi = root_one n (root_up n) (suc w) (root_is n) (record { enough = hi; least = λ v h. above v h (dec_le v w) })
  where
    above : (v : ℕ) → n ≤ v * v → Dec (v ≤ w) → suc w ≤ v
    above v h (yes p) = let q : v * v ≤ w * w = mul-le-mul p p in absurd (omega arith)
    above v h (no p) = omega arith

-- a coordinate of the yard is at most 32,767, so that no segment is longer than 46,340
pub length_bound : (p q : Point) → InRange p → InRange q → length_of p q ≤ 46340
unfolding length_of
length_bound p q a b =
    let e : gap p.east q.east ≤ 32767 = omega (arith, a.east, b.east) in
    let n : gap p.north q.north ≤ 32767 = omega (arith, a.north, b.north) in
    (root_is _).least 46340 (omega (arith, mul-le-mul e e, mul-le-mul n n))
