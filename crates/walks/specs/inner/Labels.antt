-- The labels that the keys stand for, and the walk by them.
use Rattle.std.specs.Prelude.{◌≡◌, cond, List, ℕ, suc, ◌+◌, ◌*◌, ◌-◌, ◌/◌, ◌%◌, ◌≤◌, ◌<◌, min, eqb, length, take, Option, None, Some}
use Rattle.geometry.specs.Words.{word}
use Rattle.crossings.specs.declared.Axis.{Axis}
use Rattle.crossings.specs.inner.Directions.{axis_code}
use Rattle.nets.specs.Net.{Net, unmoved, turn, IsBest, cost}
use Rattle.nets.specs.inner.Keys.{Tight}
use Rattle.crossings.specs.inner.Charts.{span, step_of}
use Rattle.sweeps.specs.inner.Keys.{Lanes, line_key}
use Rattle.walks.specs.inner.Paths.{visits}

-- the number of the axis of the step before, or that there was none
abbrev pub before_code : Option Axis → ℕ
before_code None = unmoved
before_code (Some a) = axis_code a

-- the least key of v after a step east or west, by the lines of nx crossings
unfoldable pub across : Lanes → ℕ → (ℕ → ℕ) → ℕ → ℕ
across F nx K v = min (line_key F K 0 (v % 66) nx (suc (v / 66))) (line_key F K 3 (v % 66) nx (suc (nx - 1 - v / 66)))

-- the label of v after a step along a; before any step, the lesser of the two
unfoldable pub label_at : Lanes → ℕ → (ℕ → ℕ) → ℕ → ℕ → ℕ
unfolding across
label_at F nx K a v = cond (eqb a 0) (K v) (cond (eqb a 1) (across F nx K v) (min (K v) (across F nx K v)))

-- the step along b to u, after one along a, makes the label
pub record Leading (F : Lanes) (L : ℕ → ℕ → ℕ) (v u b a key : ℕ) : Type 0 where
  pub below : u < 4356
  pub sum : key ≡ 65536 * span F.xs F.ys v u + L b u + 1638401 * turn a b

-- the direction of the lowest crossing that the labels lead to
pub record NextIs (G : Net) (F : Lanes) (L : ℕ → ℕ → ℕ) (a v d : ℕ) : Type 0 where
  pub small : d ≤ 3
  pub below : step_of F.steps d v < 4356
  pub tight : Tight G L a v (step_of F.steps d v)
  pub lowest : (w : ℕ) → Tight G L a v w → step_of F.steps d v ≤ w

-- the best path has n crossings and its steps stand in the trail
pub record Trailed (G : Net) (start end key : ℕ) (trail : List ℕ) (n : ℕ) : Type 0 where
  pub sized : length trail ≡ 4356
  pub some : 1 ≤ n
  pub fits : n ≤ 4356
  pub best : IsBest G start end (visits start (take (n - 1) trail))
  pub price : cost G (visits start (take (n - 1) trail)) ≡ key / 65536
  pub within : (i : ℕ) → i < n → word (visits start (take (n - 1) trail)) i < 4356
