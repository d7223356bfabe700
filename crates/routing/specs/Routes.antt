-- What the route table holds. Rules 6 and 21.
use Rattle.std.specs.Prelude.{◌≡◌, List, ◌∷◌, ◌++◌, ℕ, ◌*◌, ◌-◌, ◌<◌, length, replicate}
use Rattle.geometry.specs.Words.{word}
use Rattle.paths.specs.Path.{total, IsRoute, NoChain}
use Rattle.tables.specs.Tables.{Records, first_end, second_end, route_words}
use Rattle.search.specs.Network.{ByBytes, cost, graph}

-- the words of a found route: state 1, length, count, the marks, then zeros
abbrev pub found_words : Records → List ℕ → List ℕ
found_words R us = 1 ∷ total (cost R) us ∷ length us ∷ (us ++ replicate (194 - length us) 0)

-- the 197 words that run m's route record should be, where the clear straights are those of Clear
pub data RouteIs (R : Records) (Clear : ℕ → ℕ → Type 0) (m : ℕ) : List ℕ → Type 0 where
  no_run : word R.runs (5 * m) ≡ 0 → RouteIs R Clear m (replicate 197 0)
  found : word R.runs (5 * m) ≡ 1 → (us : List ℕ) → IsRoute (graph R Clear) (first_end m) (second_end m) us → RouteIs R Clear m (found_words R us)
  no_way : word R.runs (5 * m) ≡ 1 → NoChain (graph R Clear) (first_end m) (second_end m) → RouteIs R Clear m (2 ∷ replicate 196 0)

-- every record of the route table is that of the pair bytes as they stand, right or wrong
pub record Routed (R : Records) (pairs routes : List ℕ) : Type 0 where
  pub sized : length routes ≡ 4728
  pub each : (m : ℕ) → m < 24 → RouteIs R (ByBytes pairs) m (route_words routes m)
