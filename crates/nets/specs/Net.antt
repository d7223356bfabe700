-- Paths in a net of crossings, what they cost, and the best of them. Rules 35 and 36.
use Rattle.std.specs.Prelude.{◌≡◌, cond, ◌||◌, List, [], ◌∷◌, ℕ, ◌+◌, ◌*◌, ◌<◌, eqb}
use Rattle.paths.specs.Path.{total, NoLater}

-- crossings are numbers: the steps between them, those at which a path may stop, the length of a step, and its axis, 0 or 1
pub record Net : Type 1 where
  pub Step : ℕ → ℕ → Type 0
  pub Stop : ℕ → Type 0
  pub len : ℕ → ℕ → ℕ
  pub axis : ℕ → ℕ → ℕ

-- a path to the end: its first crossing, and its crossings in order
pub data Path (G : Net) (end : ℕ) : ℕ → List ℕ → Type 0 where
  arrive : G.Stop end → Path G end end (end ∷ [])
  onward : {v u : ℕ} {us : List ℕ} → G.Step v u → Path G end u us → Path G end v (v ∷ us)

-- where a path begins no step was taken before
abbrev pub unmoved : ℕ
unmoved = 2

-- 1 where a step along b after one along a is a change of direction, else 0
unfoldable pub turn : ℕ → ℕ → ℕ
turn a b = cond (eqb a unmoved || eqb a b) 0 1

-- the changes of direction of a list of crossings after a step along a
unfoldable pub changes_from : Net → ℕ → List ℕ → ℕ
unfolding turn
changes_from G a [] = 0
changes_from G a (v ∷ []) = 0
changes_from G a (v ∷ u ∷ us) = turn a (G.axis v u) + changes_from G (G.axis v u) (u ∷ us)

-- those of a path, which has none at its ends
unfoldable pub changes : Net → List ℕ → ℕ
unfolding changes_from
changes G us = changes_from G unmoved us

-- cost: length plus 25 for each change of direction
unfoldable pub cost : Net → List ℕ → ℕ
unfolding changes
cost G us = total G.len us + 25 * changes G us

-- the first path is at least as good: it costs less; or as much, with fewer changes; or with as many, and no later in order
pub data NoWorse (G : Net) (us vs : List ℕ) : Type 0 where
  cheaper : cost G us < cost G vs → NoWorse G us vs
  straighter : cost G us ≡ cost G vs → changes G us < changes G vs → NoWorse G us vs
  earlier : cost G us ≡ cost G vs → changes G us ≡ changes G vs → NoLater us vs → NoWorse G us vs

-- the best path from start to end
pub record IsBest (G : Net) (start end : ℕ) (us : List ℕ) : Type 0 where
  pub path : Path G end start us
  pub best : (vs : List ℕ) → Path G end start vs → NoWorse G us vs

-- "no way"
abbrev pub NoPath : Net → ℕ → ℕ → Type 0
NoPath G start end = (vs : List ℕ) → Path G end start vs → ⊥
