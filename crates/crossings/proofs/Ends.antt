-- A step leads to a place where a path may stop, so what is asked of the last crossing alone matters only to a path of one crossing.
use mathlib.Core.List.{List}
use Prim.Native.Nat.{ℕ}
use Rattle.visibility.proofs.Straights.{clear_end}
use Rattle.crossings.specs.Grid.{Grid, Stepping, net}

pub step_stops : {blocks : List ℕ} {g : Grid} {v u : ℕ} → Stepping blocks g v u → (net blocks g).Stop u
unfolding net
step_stops s = clear_end s.clear
