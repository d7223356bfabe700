-- The line of a side, and the codes of all marks against one block.
use Rattle.std.specs.Prelude.{◌≡◌, List, ℕ, ◌<◌, ◌≤◌, ℤ, pos, ◌-ℤ◌, ◌*ℤ◌, length}
use Rattle.std.specs.Int.Signed.{lt_z}
use Rattle.std.specs.Int.{w32}
use Rattle.std.proofs.Common.{SFits}
use Rattle.geometry.specs.Words.{Point, point, word, corners}
use Rattle.geometry.specs.Obstruction.{side_turn}
use Rattle.geometry.specs.inner.Sides.{Within}
use Rattle.tables.specs.Tables.{Records, place_of}
use Rattle.codes.specs.inner.Codes.{code_from, code_of}

-- how far a side goes east and north
pub record Slopes (e n : ℤ) : Type 0 where
  pub east : Within 32767 e
  pub north : Within 32767 n

-- side k goes e east and n north, the places strictly left of it are those further across than its level, those on its line at the level
pub record LineOf (ps : List Point) (k : ℕ) (e n level : ℤ) : Type 0 where
  pub slopes : Slopes e n
  pub fits : SFits w32 level
  pub left : (x y : ℕ) → lt_z level (e *ℤ pos y -ℤ n *ℤ pos x) ≡ lt_z (pos 0) (side_turn ps (point x y) k)
  pub on : (x y : ℕ) → side_turn ps (point x y) k ≡ pos 0 → level ≡ e *ℤ pos y -ℤ n *ℤ pos x

-- the coordinates of 240 marks
pub record Marks (east north : List ℕ) : Type 0 where
  pub easts : length east ≡ 240
  pub norths : length north ≡ 240
  pub east_small : (i : ℕ) → i < 240 → word east i ≤ 32767
  pub north_small : (i : ℕ) → i < 240 → word north i ≤ 32767

-- the place of mark i
abbrev pub mark_at : List ℕ → List ℕ → ℕ → Point
mark_at east north i = point (word east i) (word north i)

-- the codes of the marks from side k on; all of them
pub record RowFrom (ws east north : List ℕ) (k : ℕ) (row : List ℕ) : Type 0 where
  pub sized : length row ≡ 240
  pub each : (i : ℕ) → i < 240 → word row i ≡ code_from (corners ws) (mark_at east north i) k 8

pub record RowIs (ws east north row : List ℕ) : Type 0 where
  pub sized : length row ≡ 240
  pub each : (i : ℕ) → i < 240 → word row i ≡ code_of ws (mark_at east north i)

-- the marks are those of the records
pub record PlacesOf (R : Records) (east north : List ℕ) : Type 0 where
  pub marks : Marks east north
  pub each : (i : ℕ) → i < 240 → mark_at east north i ≡ place_of R i
