-- The numbers of directions and axes, and what a step leads to.
use Rattle.std.specs.Prelude.{◌≡◌, ◌≢◌, ℕ, Option, None, Some}
use Rattle.crossings.specs.declared.Direction.{Direction}
use Rattle.crossings.specs.declared.Direction.TheVariants.{West, South, North, East}
use Rattle.crossings.specs.declared.Axis.{Axis}
use Rattle.crossings.specs.declared.Axis.TheVariants.{NorthSouth, EastWest}

abbrev pub code : Direction → ℕ
code West = 0
code South = 1
code North = 2
code East = 3

abbrev pub axis_code : Axis → ℕ
axis_code NorthSouth = 0
axis_code EastWest = 1

-- the number that a step leads to, none for 4,356
abbrev pub Target : Option ℕ → ℕ → Type 0
Target None n = n ≡ 4356
Target (Some u) n = (u ≡ n) × (u ≢ 4356)
