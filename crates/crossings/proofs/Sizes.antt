-- How many crossings the net has, and how long its steps are.
use mathlib.Core.Path.{◌≡◌, ap}
use mathlib.Core.List.{List}
use Prim.Native.Nat.{ℕ, zero, suc, ◌/◌, ◌%◌, ◌≤◌, ◌<◌}
use native.Mathlib.Omega.{arith}
use lib.ListN.{length, take}
use Rattle.geometry.specs.Words.{word}
use Rattle.geometry.specs.inner.Bounds.{InRange}
use Rattle.nets.proofs.Cuts.{Sized}
use Rattle.lines.specs.inner.Lined.{Rising, none, then}
use Rattle.crossings.specs.Grid.{Grid, Crossing, place, Beside, west, south, north, east, Stepping, net, reach}
use Rattle.crossings.specs.inner.Charts.{ruled, Ruled}
use Rattle.crossings.proofs.Charts.{in_grid, crossing_east, crossing_north, place_of_crossing, spot_in_range}
use Rattle.crossings.proofs.Reading.{axis_flat}

-- increasing lists by their places
rising_above : {b : ℕ} {l : List ℕ} → Rising b l → (i : ℕ) → i < length l → b ≤ word l i
rising_above none i h = absurd (omega arith)
rising_above (then k r) zero h = k
rising_above (then k r) (suc i) h = omega (arith, rising_above r i (omega arith))

pub rising_apart : {b : ℕ} {l : List ℕ} → Rising b l → (i j : ℕ) → i < j → j < length l → word l i < word l j
rising_apart none i j h k = absurd (omega arith)
rising_apart (then b r) i zero h k = absurd (omega arith)
rising_apart (then b r) zero (suc j) h k = omega (arith, rising_above r j (omega arith))
rising_apart (then b r) (suc i) (suc j) h k = rising_apart r i j (omega arith) (omega arith)

module _ (blocks xs : List ℕ) (nx : ℕ) (ys : List ℕ) (ny : ℕ) (rule : Ruled xs nx ys ny) where
  abbrev g : Grid
  g = ruled xs nx ys ny

  -- a step is at least 1 long
  far : (v u : ℕ) → Stepping blocks g v u → 1 ≤ reach g v u
  unfolding reach place
  far v u s = go s.beside
    where
      xr : (i j : ℕ) → i < j → j < length (take nx xs) → word (take nx xs) i < word (take nx xs) j
      xr = rising_apart rule.xs_rising

      yr : (i j : ℕ) → i < j → j < length (take ny ys) → word (take ny ys) i < word (take ny ys) j
      yr = rising_apart rule.ys_rising

      go : Beside v u → 1 ≤ reach g v u
      go (west e) = omega (arith, xr (u / 66) (v / 66) (omega arith) s.from.east)
      go (east e) = omega (arith, xr (v / 66) (u / 66) (omega arith) s.to.east)
      go (south e f) = omega (arith, yr (u % 66) (v % 66) (omega arith) s.from.north)
      go (north e f) = omega (arith, yr (v % 66) (u % 66) (omega arith) s.to.north)

  -- and at most 32,767
  in_range : (v : ℕ) → Crossing g v → InRange (place g v)
  in_range v c = spot_in_range xs nx ys ny rule v (place g v) (crossing_east xs nx ys ny rule v c) (crossing_north xs nx ys ny rule v c) (place_of_crossing xs nx ys ny rule v c)

  pub reach_most : (v u : ℕ) → Stepping blocks g v u → reach g v u ≤ 32767
  unfolding reach place
  reach_most v u s = go s.beside (in_range v s.from) (in_range u s.to)
    where
      same_east : v / 66 ≡ u / 66 → (place g v).east ≡ (place g u).east
      same_east e = ap (word (take nx xs)) e

      same_north : v % 66 ≡ u % 66 → (place g v).north ≡ (place g u).north
      same_north e = ap (word (take ny ys)) e

      go : Beside v u → InRange (place g v) → InRange (place g u) → reach g v u ≤ 32767
      go (west e) p q = omega (arith, same_north (omega arith), p.east, q.east)
      go (south e f) p q = omega (arith, same_east f, p.north, q.north)
      go (north e f) p q = omega (arith, same_east f, p.north, q.north)
      go (east e) p q = omega (arith, same_north (omega arith), p.east, q.east)

  pub net_sized : Sized (net blocks g) 4356
  unfolding net
  net_sized =
      record {
        from_below = λ v u s. in_grid xs nx ys ny rule v s.from;
        to_below = λ v u s. in_grid xs nx ys ny rule u s.to;
        far = far;
        flat = axis_flat;
      }
