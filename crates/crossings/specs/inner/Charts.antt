-- The table of steps, and what its readers answer.
use Rattle.std.specs.Prelude.{◌≡◌, cond, ◌&&◌, ◌||◌, List, ℕ, ◌+◌, ◌-◌, ◌/◌, ◌%◌, ◌≤◌, ◌<◌, eqb, leb, length, take}
use Rattle.geometry.specs.Words.{Point, point, word}
use Rattle.lengths.specs.Length.{gap}
use Rattle.lines.specs.inner.Lined.{Rising}
use Rattle.crossings.specs.Grid.{Grid, grid, Stepping}

-- the lines are the first nx and ny of two lists
abbrev pub ruled : List ℕ → ℕ → List ℕ → ℕ → Grid
ruled xs nx ys ny = grid (take nx xs) (take ny ys)

pub record Ruled (xs : List ℕ) (nx : ℕ) (ys : List ℕ) (ny : ℕ) : Type 0 where
  pub xs_sized : length xs ≡ 194
  pub ys_sized : length ys ≡ 194
  pub xs_few : nx ≤ 66
  pub ys_few : ny ≤ 66
  pub xs_near : (i : ℕ) → i < nx → word xs i ≤ 32767
  pub ys_near : (i : ℕ) → i < ny → word ys i ≤ 32767
  pub xs_rising : Rising 0 (take nx xs)
  pub ys_rising : Rising 0 (take ny ys)

-- the place of crossing v, by the words of the lists
unfoldable pub spot : List ℕ → List ℕ → ℕ → Point
spot xs ys v = point (word xs (v / 66)) (word ys (v % 66))

-- how far two crossings are apart along a line
unfoldable pub span : List ℕ → List ℕ → ℕ → ℕ → ℕ
unfolding spot
span xs ys v u = gap (spot xs ys v).east (spot xs ys u).east + gap (spot xs ys v).north (spot xs ys u).north

-- b is 1 where P holds, else 0
pub record Told (P : Type 0) (b : ℕ) : Type 0 where
  pub small : b ≤ 1
  pub yes'' : b ≡ 1 → P
  pub no'' : b ≡ 0 → P → ⊥

-- the steps north and east from each crossing below n
pub record Charted (blocks : List ℕ) (g : Grid) (steps : List ℕ) (n : ℕ) : Type 0 where
  pub sized : length steps ≡ 4356
  pub north : (v : ℕ) → v < n → Told (Stepping blocks g v (v + 1)) (word steps v % 2)
  pub east : (v : ℕ) → v < n → Told (Stepping blocks g v (v + 66)) (word steps v / 2)

-- the crossing that a clear step leads to, or 4,356 where there is none
unfoldable pub west_of : List ℕ → ℕ → ℕ
west_of steps v = cond (leb 66 v && eqb (word steps (v - 66) / 2) 1) (v - 66) 4356

unfoldable pub south_of : List ℕ → ℕ → ℕ
south_of steps v = cond (leb 1 v && eqb (word steps (v - 1) % 2) 1) (v - 1) 4356

unfoldable pub north_of : List ℕ → ℕ → ℕ
north_of steps v = cond (eqb (word steps v % 2) 1) (v + 1) 4356

unfoldable pub east_of : List ℕ → ℕ → ℕ
east_of steps v = cond (eqb (word steps v / 2) 1) (v + 66) 4356

-- the same by direction: 0 west, 1 south, 2 north, 3 east
unfoldable pub step_of : List ℕ → ℕ → ℕ → ℕ
unfolding west_of south_of north_of east_of
step_of steps d v = cond (eqb d 0) (west_of steps v) (cond (eqb d 1) (south_of steps v) (cond (eqb d 2) (north_of steps v) (east_of steps v)))

-- the axis of a step in a direction
unfoldable pub axis_by : ℕ → ℕ
axis_by d = cond (eqb d 1 || eqb d 2) 0 1
