-- How the best path is kept: its steps, by the number of each one's direction.
use Rattle.std.specs.Prelude.{◌≡◌, cond, List, [], ◌∷◌, ℕ, ◌+◌, ◌-◌, ◌≤◌, ◌<◌, eqb, length, take, Option, MatchOption}
use Rattle.geometry.specs.Words.{word}
use Rattle.walks.specs.declared.Found.{Found}
use Rattle.nets.specs.Net.{Net, cost, IsBest, NoPath}

-- the crossing that a step by its direction's number leads to: 0 west, 1 south, 2 north, 3 east
unfoldable pub moved_by : ℕ → ℕ → ℕ
moved_by d v = cond (eqb d 0) (v - 66) (cond (eqb d 1) (v - 1) (cond (eqb d 2) (v + 1) (v + 66)))

-- the crossings that a trail of steps passes
unfoldable pub visits : ℕ → List ℕ → List ℕ
unfolding moved_by
visits v [] = v ∷ []
visits v (d ∷ ds) = v ∷ visits (moved_by d v) ds

-- the path that a trail keeps is the best and has n crossings
pub record Kept (G : Net) (start end : ℕ) (trail : List ℕ) (n price : ℕ) : Type 0 where
  pub some : 1 ≤ n
  pub fits : n ≤ 4356
  pub best : IsBest G start end (visits start (take (n - 1) trail))
  pub price_is : cost G (visits start (take (n - 1) trail)) ≡ price
  pub within : (i : ℕ) → i < n → word (visits start (take (n - 1) trail)) i < 4356

-- what the search for a path answers and leaves
pub record Outcoming (G : Net) (start end : ℕ) (trail : List ℕ) (size : ℕ) (found : Option Found) : Type 0 where
  pub list_size : size ≡ 8712
  pub trail_size : length trail ≡ 4356
  pub outcome : MatchOption found (NoPath G start end) (λ f. Kept G start end trail f.count f.cost)
