-- The table of steps tells the steps of the net.
use mathlib.Core.Logic.{inl, inr}
use mathlib.Core.List.{List}
use Prim.Native.Nat.{ℕ, ◌<◌}
use Rattle.crossings.specs.Grid.{Stepping, net}
use Rattle.crossings.specs.inner.Charts.{ruled, Ruled, Charted, step_of}
use Rattle.crossings.proofs.Stepping.{span_reach, west_at, south_at, north_at, east_at, row_of}
use Rattle.crossings.proofs.Directions.{Way, to_west, to_south, to_north, to_east, way, step_is, step_axis}
use Rattle.sweeps.specs.inner.Keys.{lanes}
use Rattle.sweeps.proofs.Carrying.{Toward, west, south, north, east, Leads}

module _ {blocks xs : List ℕ} {nx : ℕ} {ys : List ℕ} {ny : ℕ} (rule : Ruled xs nx ys ny) {steps : List ℕ} (ch : Charted blocks (ruled xs nx ys ny) steps 4356) where
  toward_of : {d v : ℕ} → Way d → step_of steps d v < 4356 → Stepping blocks (ruled xs nx ys ny) v (step_of steps d v) → Toward v (step_of steps d v) d
  unfolding step_of
  toward_of {v = v} to_west h s = west (west_at steps v h)
  toward_of {v = v} to_south h s = let e = south_at steps v h in south e (row_of (inl e) s.beside)
  toward_of {v = v} to_north h s = let e = north_at steps v h in north e (row_of (inr e) s.beside)
  toward_of {v = v} to_east h s = east (east_at steps v h)

  pub leads_of : {end : ℕ} → Leads (net blocks (ruled xs nx ys ny)) (lanes xs ys steps end)
  unfolding net
  leads_of {end} d v dl vl h =
      let s = step_is blocks xs nx ys ny rule steps ch d v dl vl h in
      record { toward = toward_of (way d dl) h s; step = s; axis = step_axis blocks xs nx ys ny rule steps ch d v dl vl h; long = span_reach blocks xs nx ys ny rule s }
