-- Three spots in a list.
use Rattle.std.specs.Prelude.{◌≡◌, List, Float, length}
use Rattle.curves.specs.declared.Spot.{Spot}
use Rattle.pieces.specs.Showing.{spot_in}

pub record Three (a b c : Spot) (xs : List Float) : Type 0 where
  pub sized : length xs ≡ 6
  pub first : spot_in xs 0 ≡ a
  pub second : spot_in xs 1 ≡ b
  pub third : spot_in xs 2 ≡ c
