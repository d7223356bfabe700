-- What the functions that work out one byte answer.
use Rattle.std.specs.Prelude.{◌≡◌, List, Bool, ℕ, ◌<◌}
use Rattle.geometry.specs.Words.{Point}
use Rattle.geometry.specs.Obstruction.{Hidden}
use Rattle.tables.specs.Tables.{Records, present, place_of}
use Rattle.visibility.specs.Visibility.{Clear, InSeam}

-- the byte of a straight between present marks at a and b
pub data StraightIs (blocks : List ℕ) (a b : Point) (byte : ℕ) : Type 0 where
  visible : Clear blocks a b → byte ≡ 254 → StraightIs blocks a b byte
  between : InSeam blocks a b → byte ≡ 253 → StraightIs blocks a b byte
  lowest : byte < 24 → Hidden blocks byte a b → ((n : ℕ) → n < byte → Hidden blocks n a b → ⊥) → StraightIs blocks a b byte

-- what a row's loop keeps of its mark j: whether it is present, and its place
pub record MarkIs (R : Records) (j : ℕ) (there : Bool) (p : Point) : Type 0 where
  pub presence : there ≡ present R j
  pub place : p ≡ place_of R j
