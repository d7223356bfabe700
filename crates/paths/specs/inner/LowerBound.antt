use Rattle.std.specs.Prelude.{◌≡◌, ℕ, ◌+◌, ◌≤◌}
use Rattle.paths.specs.Path.{Graph}

-- a consistent lower bound, as A* asks: of the cost from start to each vertex, which no step makes larger by more than it costs
pub record ConsistentBound (G : Graph) (start : ℕ) (bound : ℕ → ℕ) : Type 0 where
  pub none : bound start ≡ 0
  pub step : (v u : ℕ) → bound u ≤ G.cost v u + bound v
