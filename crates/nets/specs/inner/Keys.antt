-- Keys: a path's cost and changes as one number, 65,536 × cost + changes.
use Rattle.std.specs.Prelude.{◌≡◌, List, [], ◌∷◌, ℕ, ◌+◌, ◌*◌, ◌≤◌}
use Rattle.nets.specs.Net.{Net, Path, turn}

-- what a step adds to a key
unfoldable pub weight : Net → ℕ → ℕ → ℕ → ℕ
weight G a v u = 65536 * (G.len v u + 25 * turn a (G.axis v u)) + turn a (G.axis v u)

-- the key of a list of crossings after a step along a
unfoldable pub key_from : Net → ℕ → List ℕ → ℕ
unfolding weight
key_from G a [] = 0
key_from G a (v ∷ []) = 0
key_from G a (v ∷ u ∷ us) = weight G a v u + key_from G (G.axis v u) (u ∷ us)

-- a path of at most the key
pub record Attained (G : Net) (end a v key : ℕ) : Type 0 where
  pub by : List ℕ
  pub path : Path G end v by
  pub within : key_from G a by ≤ key

-- labels by the axis of the step before and the crossing: 0 at the end, and no step makes one less
pub record Relaxed (G : Net) (end : ℕ) (L : ℕ → ℕ → ℕ) : Type 0 where
  pub at_end : (a : ℕ) → a ≤ 2 → L a end ≡ 0
  pub by_step : (a v u : ℕ) → a ≤ 2 → G.Step v u → L a v ≤ weight G a v u + L (G.axis v u) u

-- a next crossing by which the labels add up
pub record Tight (G : Net) (L : ℕ → ℕ → ℕ) (a v u : ℕ) : Type 0 where
  pub step : G.Step v u
  pub sum : L a v ≡ weight G a v u + L (G.axis v u) u
