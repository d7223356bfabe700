-- What every run costs: the state and the length of its route. Rule 53.
use Rattle.std.specs.Prelude.{◌≡◌, List, ℕ, ◌+◌, ◌<◌, length}
use Rattle.geometry.specs.Words.{word}
use Rattle.tables.specs.Tables.{Records}
use Rattle.routing.specs.Routes.{RouteIs}

-- the state and the length in run m's route record, where the clear straights are those of Clear
pub record Priced (R : Records) (Clear : ℕ → ℕ → Type 0) (m state price : ℕ) : Type 0 where
  pub words : List ℕ
  pub route : RouteIs R Clear m words
  pub state_is : state ≡ word words 0
  pub price_is : price ≡ word words 1

-- the states of the 24 runs, then their lengths
pub record Prices (R : Records) (Clear : ℕ → ℕ → Type 0) (quote : List ℕ) : Type 0 where
  pub sized : length quote ≡ 48
  pub each : (m : ℕ) → m < 24 → Priced R Clear m (word quote m) (word quote (24 + m))
