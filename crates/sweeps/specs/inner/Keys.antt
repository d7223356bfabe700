-- What the search for the best path keeps and answers: one key a crossing, of a path after a step north or south.
use Rattle.std.specs.Prelude.{◌≡◌, ◌⊎◌, cond, List, ℕ, zero, suc, ◌+◌, ◌*◌, ◌-◌, ◌/◌, ◌%◌, ◌≤◌, ◌<◌, min, eqb, ltb, length, set}
use Rattle.lists.specs.inner.Filled.{filled}
use Rattle.geometry.specs.Words.{word}
use Rattle.lengths.specs.Length.{gap}
use Rattle.nets.specs.Net.{Net}
use Rattle.nets.specs.inner.Keys.{Attained}
use Rattle.crossings.specs.inner.Charts.{step_of, axis_by}

-- the key of crossing v: one word of the first list and two of the second
unfoldable pub key_at : List ℕ → List ℕ → ℕ → ℕ
key_at top low v = 4294967296 * word top v + 65536 * word low (2 * v + 1) + word low (2 * v)

-- the key of a crossing that is not reached
abbrev pub unreached : ℕ
unreached = 281470681743360

-- the lines, the table of their steps, and the end of the path
pub record Lanes : Type 0 where
  pub xs : List ℕ
  pub ys : List ℕ
  pub steps : List ℕ
  pub end : ℕ

abbrev pub lanes : List ℕ → List ℕ → List ℕ → ℕ → Lanes
lanes xs ys steps end = record { xs = xs; ys = ys; steps = steps; end = end }

-- the key of v after a step along b, where the path ends or goes on north or south: a change of direction adds 25 × 65,536 + 1
unfoldable pub leave : ℕ → (ℕ → ℕ) → ℕ → ℕ → ℕ
leave end K b v = cond (eqb v end) 0 (K v + 1638401 * b)

-- the key of v by a step of length w in direction d to a crossing of key c, where there is one
unfoldable pub through : List ℕ → ℕ → ℕ → ℕ → ℕ → ℕ
through steps d v w c = cond (ltb (step_of steps d v) 4356) (65536 * w + c) unreached

-- crossing k of a line of n: from crossing k + 1 direction d leads to it
unfoldable pub on_line : ℕ → ℕ → ℕ → ℕ → ℕ
on_line d line n k = cond (eqb d 0) (66 * k + line) (cond (eqb d 1) (66 * line + k) (cond (eqb d 2) (66 * line + (n - 1 - k)) (66 * (n - 1 - k) + line)))

-- how far it lies from crossing k - 1
unfoldable pub gap_on : List ℕ → List ℕ → ℕ → ℕ → ℕ → ℕ
gap_on xs ys d n k = cond (eqb k 0) 0 (cond (eqb d 0) (gap (word xs k) (word xs (k - 1))) (cond (eqb d 1) (gap (word ys k) (word ys (k - 1))) (cond (eqb d 2) (gap (word ys (n - 1 - k)) (word ys (n - k))) (gap (word xs (n - 1 - k)) (word xs (n - k))))))

-- the least key of the k-th crossing of a line after a step along the line, by paths that go on in direction d, turn or end
unfoldable pub line_key : Lanes → (ℕ → ℕ) → ℕ → ℕ → ℕ → ℕ → ℕ
unfolding leave through on_line gap_on
line_key F K d line n zero = unreached
line_key F K d line n (suc k) = min (leave F.end K (axis_by d) (on_line d line n k)) (through F.steps d (on_line d line n k) (gap_on F.xs F.ys d n k) (line_key F K d line n k))

-- no such path makes the key of the crossing less
pub record Calm (F : Lanes) (K : ℕ → ℕ) (d line n k : ℕ) : Type 0 where
  pub calm : K (on_line d line n k) ≤ line_key F K d line n (suc k) + 1638401 * axis_by d

-- the keys at any time of the search
pub record Fair (G : Net) (end : ℕ) (top low : List ℕ) : Type 0 where
  pub top_sized : length top ≡ 4356
  pub low_sized : length low ≡ 8712
  pub capped : (v : ℕ) → v < 4356 → key_at top low v ≤ unreached
  pub at_end : key_at top low end ≡ 0
  pub attained : (v : ℕ) → v < 4356 → key_at top low v < unreached → Attained G end 0 v (key_at top low v)

-- the sum of the first n keys, and of all
unfoldable pub sum_below : ℕ → (ℕ → ℕ) → ℕ
sum_below zero K = 0
sum_below (suc n) K = K n + sum_below n K

unfoldable pub total : List ℕ → List ℕ → ℕ
unfolding sum_below
total top low = sum_below 4356 (key_at top low)

-- the lists before and after the key of v was written
pub record Stored (top low : List ℕ) (v key : ℕ) (top' low' : List ℕ) : Type 0 where
  pub top_is : top' ≡ set top v (key / 4294967296)
  pub low_is : low' ≡ set (set low (2 * v + 1) (key / 65536 % 65536)) (2 * v) (key % 65536)

-- the lists before and after that, where the key is less
pub record Improved (top low : List ℕ) (v key : ℕ) (top' low' : List ℕ) (r : ℕ) : Type 0 where
  pub small : r ≤ 1
  pub came : ((r ≡ 0) × (key_at top low v ≤ key) × (top' ≡ top) × (low' ≡ low)) ⊎ ((r ≡ 1) × (key < key_at top low v) × Stored top low v key top' low')

-- the keys before and after some were made less, r of them
pub record Lowered (G : Net) (end : ℕ) (top low top' low' : List ℕ) (r : ℕ) : Type 0 where
  pub fair : Fair G end top' low'
  pub falls : total top' low' + r ≤ total top low
  pub still : r ≡ 0 → (top' ≡ top) × (low' ≡ low)

-- by a pass along one line, by passes along m lines, by all four directions
pub record Passed (G : Net) (F : Lanes) (d line n : ℕ) (top low top' low' : List ℕ) (r : ℕ) : Type 0 where
  pub few : r ≤ 66
  pub lowered : Lowered G F.end top low top' low' r
  pub calm : r ≡ 0 → (k : ℕ) → k < n → Calm F (key_at top low) d line n k

pub record Swept (G : Net) (F : Lanes) (d m n : ℕ) (top low top' low' : List ℕ) (r : ℕ) : Type 0 where
  pub few : r ≤ 4356
  pub lowered : Lowered G F.end top low top' low' r
  pub calm : r ≡ 0 → (line k : ℕ) → line < m → k < n → Calm F (key_at top low) d line n k

-- nothing makes a key less, in any direction
pub record AllCalm (F : Lanes) (nx ny : ℕ) (K : ℕ → ℕ) : Type 0 where
  pub west : (line k : ℕ) → line < ny → k < nx → Calm F K 0 line nx k
  pub south : (line k : ℕ) → line < nx → k < ny → Calm F K 1 line ny k
  pub north : (line k : ℕ) → line < nx → k < ny → Calm F K 2 line ny k
  pub east : (line k : ℕ) → line < ny → k < nx → Calm F K 3 line nx k

pub record Rounded (G : Net) (F : Lanes) (nx ny : ℕ) (top low top' low' : List ℕ) (r : ℕ) : Type 0 where
  pub lowered : Lowered G F.end top low top' low' r
  pub calm : r ≡ 0 → AllCalm F nx ny (key_at top low)

-- the keys once the search is done
pub record Searched (G : Net) (F : Lanes) (nx ny : ℕ) (top low : List ℕ) : Type 0 where
  pub fair : Fair G F.end top low
  pub calm : AllCalm F nx ny (key_at top low)

-- before it only the end is reached
pub record Opened (end : ℕ) (top low : List ℕ) : Type 0 where
  pub top_is : top ≡ set (filled {A = ℕ} 4356 65535) end 0
  pub low_is : low ≡ filled 8712 0
